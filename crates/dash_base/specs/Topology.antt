-- Topologies and the sizes that they have.
use Rattle.std.specs.Prelude.{◌≡◌, ℕ, Option}
use Rattle.dash_base.specs.Sizes.{simple_sizes, sizes_refusal}
use Rattle.dash_base.specs.declared.sizes.Sizes.{Sizes}
use Rattle.dash_base.specs.declared.topology.Topology.{Topology}
use Rattle.dash_base.specs.declared.topology.TopoRefusal.{TopoRefusal}

-- a topology has these sizes
pub record HasSizes (s : Sizes) (t : Topology) : Type 0 where
  pub clusters_is : t.clusters ≡ s.clusters
  pub harts_is : t.harts ≡ s.harts
  pub budget_is : t.budget ≡ s.budget
  pub memory_is : t.memory ≡ s.memory
  pub locks_is : t.locks ≡ s.locks
  pub base_is : t.base ≡ s.base
  pub l2_is : t.l2 ≡ s.l2
  pub l1_is : t.l1 ≡ s.l1
  pub buffer_is : t.buffer ≡ s.buffer
  pub acks_is : t.acks ≡ s.acks
  pub prefetch_is : t.prefetch ≡ s.prefetch
  pub stack_is : t.stack ≡ s.stack

-- the three given keys and the default of every other one
abbrev pub IsSimple : ℕ → ℕ → ℕ → Topology → Type 0
IsSimple clusters harts budget t = HasSizes (simple_sizes clusters harts budget) t

-- the first refusal of three given keys
abbrev pub simple_refusal : ℕ → ℕ → ℕ → Option TopoRefusal
simple_refusal clusters harts budget = sizes_refusal (simple_sizes clusters harts budget)
