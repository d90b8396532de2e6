-- The bounds of the twelve keys of a topology, their defaults, and which refusal comes first.
use Rattle.std.specs.Prelude.{ℕ, ◌+◌, ◌*◌, ◌/◌, ◌%◌, Bool, true, not, ◌&&◌, ◌==◌, nat_le, nat_lt, if◌then◌else◌, List, [], ◌∷◌, Option, Some, None}
use Rattle.std.specs.List.{find}
use Rattle.std.specs.Int.{is_power_of_two}
use Rattle.dash_base.specs.Bounds.{is_between}
use Rattle.dash_base.specs.declared.sizes.Sizes.{Sizes}
use Rattle.dash_base.specs.declared.topology.Key.{Key}
use Rattle.dash_base.specs.declared.topology.Key.TheVariants as key
use Rattle.dash_base.specs.declared.topology.TopoRefusal.{TopoRefusal}
use Rattle.dash_base.specs.declared.topology.TopoRefusal.TheVariants.{Range, NotPower, TooMuch}

-- a quarter of each hart's equal part of memory, rounded down to a multiple of 16
abbrev pub default_stack : ℕ → ℕ → ℕ → ℕ
default_stack clusters harts memory = memory / 4 / (clusters * harts) / 16 * 16

-- three sizes, and the default of every other one
abbrev pub simple_sizes : ℕ → ℕ → ℕ → Sizes
simple_sizes clusters harts budget = record {
  clusters = clusters;
  harts = harts;
  budget = budget;
  memory = 1048576;
  locks = 64;
  base = 0;
  l2 = 256;
  l1 = 16;
  buffer = 4;
  acks = 4;
  prefetch = 2;
  stack = default_stack clusters harts 1048576;
}

-- each hart's equal part of memory
abbrev pub stack_limit : Sizes → ℕ
stack_limit s = s.memory / (s.clusters * s.harts)

-- whether a key's size is within its bounds
abbrev pub fits : Sizes → Key → Bool
fits s key.Clusters = is_between 1 16 s.clusters
fits s key.Harts = is_between 1 4 s.harts
fits s key.Budget = is_between 1 2147483647 s.budget
fits s key.Memory = is_between 65536 16777216 s.memory
fits s key.Locks = nat_le s.locks 1024
fits s key.Base = (s.base % 65536 == 0) && nat_le (s.base + s.memory + 4 * s.locks) 4294901760
fits s key.L2 = is_between 16 16384 s.l2
fits s key.L1 = is_between 1 s.l2 s.l1
fits s key.Buffer = is_between 1 16 s.buffer
fits s key.Acks = is_between 1 16 s.acks
fits s key.Prefetch = nat_le s.prefetch 8
fits s key.Stack = (s.stack % 16 == 0) && is_between 16 (stack_limit s) s.stack

-- every key, in the order of the table of keys
abbrev pub all_keys : List Key
all_keys =
    key.Clusters ∷ key.Harts ∷ key.Budget ∷ key.Memory ∷ key.Locks ∷ key.Base ∷ key.L2 ∷ key.L1 ∷ key.Buffer ∷ key.Acks ∷ key.Prefetch ∷ key.Stack ∷ []

-- the first key whose size is out of its bounds
abbrev pub first_out_of_bounds : Sizes → Option Key
first_out_of_bounds s = find (λ k. not (fits s k)) all_keys

-- whether a key's size is a power of two, where it has to be one
abbrev pub is_power : Sizes → Key → Bool
is_power s key.Memory = is_power_of_two s.memory
is_power s key.L2 = is_power_of_two s.l2
is_power s key.L1 = is_power_of_two s.l1
is_power s _ = true

-- the first key whose size is no power of two and has to be one
abbrev pub first_no_power : Sizes → Option Key
first_no_power s = find (λ k. not (is_power s k)) (key.Memory ∷ key.L2 ∷ key.L1 ∷ [])

-- the harts may together retire more than 2,000,000 instructions
abbrev pub is_too_much : Sizes → Bool
is_too_much s = nat_lt 2000000 (s.clusters * s.harts * s.budget)

-- what follows where no key is refused
abbrev pub refused_for : (Key → TopoRefusal) → Option Key → Option TopoRefusal → Option TopoRefusal
refused_for cause (Some k) later = Some (cause k)
refused_for cause None later = later

-- why there is no topology of these sizes, where there is none
abbrev pub sizes_refusal : Sizes → Option TopoRefusal
sizes_refusal s =
    refused_for Range (first_out_of_bounds s) (refused_for NotPower (first_no_power s) (if is_too_much s then Some TooMuch else None))
