-- The topology of sizes is one.
use Rattle.std.proofs.Common.{◌*◌, ◌/◌, ◌+◌, ◌%◌, ◌≤◌, ◌≡◌, sym, ◌∙◌}
use mathlib.Core.HLevel.{is_prop→PathP}
use Rattle.std.proofs.Props.{props}
use Rattle.std.specs.Int.{IsPowerOfTwo}
use Rattle.dash_base.specs.Bounds.{IsBetween}
use Rattle.dash_base.specs.Topology.{HasSizes}
use Rattle.dash_base.specs.declared.sizes.Sizes.{Sizes}
use Rattle.dash_base.specs.declared.topology.Topology.{Topology}

-- two topologies with the same keys are one: their bounds are facts with one proof
pub same_topology : (a b : Topology) → a.clusters ≡ b.clusters → a.harts ≡ b.harts → a.budget ≡ b.budget → a.memory ≡ b.memory → a.locks ≡ b.locks → a.base ≡ b.base
    → a.l2 ≡ b.l2 → a.l1 ≡ b.l1 → a.buffer ≡ b.buffer → a.acks ≡ b.acks → a.prefetch ≡ b.prefetch → a.stack ≡ b.stack → a ≡ b
same_topology a b clusters harts budget memory locks base l2 l1 buffer acks prefetch stack = λ i. record {
  clusters = clusters i;
  harts = harts i;
  budget = budget i;
  memory = memory i;
  locks = locks i;
  base = base i;
  l2 = l2 i;
  l1 = l1 i;
  buffer = buffer i;
  acks = acks i;
  prefetch = prefetch i;
  stack = stack i;
  clusters_in_range = is_prop→PathP (λ j. IsBetween 1 16 (clusters j)) (λ j. hlevel props) a.clusters_in_range b.clusters_in_range i;
  harts_in_range = is_prop→PathP (λ j. IsBetween 1 4 (harts j)) (λ j. hlevel props) a.harts_in_range b.harts_in_range i;
  budget_in_range = is_prop→PathP (λ j. IsBetween 1 2147483647 (budget j)) (λ j. hlevel props) a.budget_in_range b.budget_in_range i;
  memory_in_range = is_prop→PathP (λ j. IsBetween 65536 16777216 (memory j)) (λ j. hlevel props) a.memory_in_range b.memory_in_range i;
  memory_is_power = is_prop→PathP (λ j. ∥ IsPowerOfTwo (memory j) ∥₁) (λ j. hlevel props) a.memory_is_power b.memory_is_power i;
  memory_in_pages = is_prop→PathP (λ j. memory j % 65536 ≡ 0) (λ j. hlevel props) a.memory_in_pages b.memory_in_pages i;
  locks_in_range = is_prop→PathP (λ j. locks j ≤ 1024) (λ j. hlevel props) a.locks_in_range b.locks_in_range i;
  base_in_pages = is_prop→PathP (λ j. base j % 65536 ≡ 0) (λ j. hlevel props) a.base_in_pages b.base_in_pages i;
  base_in_range = is_prop→PathP (λ j. base j + memory j + 4 * locks j ≤ 4294901760) (λ j. hlevel props) a.base_in_range b.base_in_range i;
  l2_in_range = is_prop→PathP (λ j. IsBetween 16 16384 (l2 j)) (λ j. hlevel props) a.l2_in_range b.l2_in_range i;
  l2_is_power = is_prop→PathP (λ j. ∥ IsPowerOfTwo (l2 j) ∥₁) (λ j. hlevel props) a.l2_is_power b.l2_is_power i;
  l1_in_range = is_prop→PathP (λ j. IsBetween 1 (l2 j) (l1 j)) (λ j. hlevel props) a.l1_in_range b.l1_in_range i;
  l1_is_power = is_prop→PathP (λ j. ∥ IsPowerOfTwo (l1 j) ∥₁) (λ j. hlevel props) a.l1_is_power b.l1_is_power i;
  buffer_in_range = is_prop→PathP (λ j. IsBetween 1 16 (buffer j)) (λ j. hlevel props) a.buffer_in_range b.buffer_in_range i;
  acks_in_range = is_prop→PathP (λ j. IsBetween 1 16 (acks j)) (λ j. hlevel props) a.acks_in_range b.acks_in_range i;
  prefetch_in_range = is_prop→PathP (λ j. prefetch j ≤ 8) (λ j. hlevel props) a.prefetch_in_range b.prefetch_in_range i;
  stack_in_range = is_prop→PathP (λ j. IsBetween 16 (memory j / (clusters j * harts j)) (stack j)) (λ j. hlevel props) a.stack_in_range b.stack_in_range i;
  stack_is_aligned = is_prop→PathP (λ j. stack j % 16 ≡ 0) (λ j. hlevel props) a.stack_is_aligned b.stack_is_aligned i;
  work_in_range = is_prop→PathP (λ j. clusters j * harts j * budget j ≤ 2000000) (λ j. hlevel props) a.work_in_range b.work_in_range i;
}

-- the topology of sizes is one
pub one_of_sizes : (s : Sizes) (a b : Topology) → HasSizes s a → HasSizes s b → a ≡ b
one_of_sizes s a b first second =
    same_topology a b
    (first.clusters_is ∙ sym second.clusters_is) (first.harts_is ∙ sym second.harts_is) (first.budget_is ∙ sym second.budget_is) (first.memory_is ∙ sym second.memory_is)
    (first.locks_is ∙ sym second.locks_is) (first.base_is ∙ sym second.base_is) (first.l2_is ∙ sym second.l2_is) (first.l1_is ∙ sym second.l1_is)
    (first.buffer_is ∙ sym second.buffer_is) (first.acks_is ∙ sym second.acks_is) (first.prefetch_is ∙ sym second.prefetch_is) (first.stack_is ∙ sym second.stack_is)
