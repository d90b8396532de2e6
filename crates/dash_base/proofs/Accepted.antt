-- What the sizes of a topology that isn't refused keep.
use Rattle.std.proofs.Common.{◌≡◌, ℕ, ◌+◌, ◌*◌, ◌/◌, ◌%◌, ◌≤◌, Bool, true, false, not, ◌==◌, nat_lt, if◌then◌else◌, List, [], ◌∷◌, Option, Some, None, refl, arith}
use Rattle.std.proofs.lemmas.Bool.{leb-true, not-false, and_parts}
use Rattle.std.proofs.lemmas.Bool.Decides.{nat_tests}
use Rattle.std.specs.Int.{IsPowerOfTwo, is_power_of_two}
use Rattle.std.specs.List.{find, AllByRecursion}
use Rattle.dash_base.specs.Bounds.{IsBetween, is_between}
use Rattle.dash_base.specs.Sizes.{fits, all_keys, is_power, refused_for, sizes_refusal}
use Rattle.dash_base.specs.declared.sizes.Sizes.{Sizes}
use Rattle.dash_base.specs.declared.topology.Key.{Key}
use Rattle.dash_base.specs.declared.topology.Key.TheVariants as key
use Rattle.dash_base.specs.declared.topology.TopoRefusal.{TopoRefusal}
use Rattle.dash_base.specs.declared.topology.TopoRefusal.TheVariants.{TooMuch}
use Rattle.dash_base.proofs.Powers.{power_of_one_digit, power_in_pages}

found_none : {X : Type 0} (p : X → Bool) (b : Bool) (x : X) (xs : List X) → p x ≡ b → (if b then Some x else find p xs) ≡ None → (p x ≡ false) × (find p xs ≡ None)
found_none p true x xs is none = (cc)
found_none p false x xs is none = (is, none)

-- what finds nothing passes no element
none_found : {X : Type 0} (p : X → Bool) (xs : List X) → find p xs ≡ None → AllByRecursion (λ x. p x ≡ false) xs
none_found p [] none = tt
none_found p (x ∷ xs) none = let (here, later) = found_none p (p x) x xs refl none in (here, none_found p xs later)

no_key : (cause : Key → TopoRefusal) (o : Option Key) (later : Option TopoRefusal) → refused_for cause o later ≡ None → (o ≡ None) × (later ≡ None)
no_key cause (Some k) later none = (cc)
no_key cause None later none = (refl, none)

little : (b : Bool) → (if b then Some TooMuch else None) ≡ None → b ≡ false
little true none = cc
little false none = refl

between : (least greatest n : ℕ) → not (is_between least greatest n) ≡ false → IsBetween least greatest n
between least greatest n inside =
    let (low, high) = and_parts _ _ (not-false _ inside) in
    record { low = leb-true _ _ low; high = leb-true _ _ high }

between_two : (least greatest n : ℕ) → is_between least greatest n ≡ true → IsBetween least greatest n
between_two least greatest n inside =
    let (low, high) = and_parts _ _ inside in record { low = leb-true _ _ low; high = leb-true _ _ high }

within : (limit n : ℕ) → nat_lt limit n ≡ false → n ≤ limit
within limit n small = grind (arith, nat_tests)

-- what a topology's fields keep
pub record IsAccepted (s : Sizes) : Type 0 where
  pub clusters_in_range : IsBetween 1 16 s.clusters
  pub harts_in_range : IsBetween 1 4 s.harts
  pub budget_in_range : IsBetween 1 2147483647 s.budget
  pub memory_in_range : IsBetween 65536 16777216 s.memory
  pub memory_is_power : IsPowerOfTwo s.memory
  pub memory_in_pages : s.memory % 65536 ≡ 0
  pub locks_in_range : s.locks ≤ 1024
  pub base_in_pages : s.base % 65536 ≡ 0
  pub base_in_range : s.base + s.memory + 4 * s.locks ≤ 4294901760
  pub l2_in_range : IsBetween 16 16384 s.l2
  pub l2_is_power : IsPowerOfTwo s.l2
  pub l1_in_range : IsBetween 1 s.l2 s.l1
  pub l1_is_power : IsPowerOfTwo s.l1
  pub buffer_in_range : IsBetween 1 16 s.buffer
  pub acks_in_range : IsBetween 1 16 s.acks
  pub prefetch_in_range : s.prefetch ≤ 8
  pub stack_in_range : IsBetween 16 (s.memory / (s.clusters * s.harts)) s.stack
  pub stack_is_aligned : s.stack % 16 ≡ 0
  pub work_in_range : s.clusters * s.harts * s.budget ≤ 2000000

is_zero : (n m : ℕ) → (n == m) ≡ true → n ≡ m
is_zero n m same = grind (arith, nat_tests)

power : (n : ℕ) → not (is_power_of_two n) ≡ false → IsPowerOfTwo n
power n has = power_of_one_digit n (is_zero _ _ (not-false _ has))

pub accepted : (s : Sizes) → sizes_refusal s ≡ None → IsAccepted s
accepted s none =
    let (bounded, rest) = no_key _ _ _ none in
    let (powers, last) = no_key _ _ _ rest in
    let keys = none_found (λ k. not (fits s k)) all_keys bounded in
    let even = none_found (λ k. not (is_power s k)) (key.Memory ∷ key.L2 ∷ key.L1 ∷ []) powers in
    let memory = between _ _ s.memory keys.1.1.1.0 in
    let base = and_parts _ _ (not-false _ keys.1.1.1.1.1.0) in
    let stack = and_parts _ _ (not-false _ keys.1.1.1.1.1.1.1.1.1.1.1.0) in
    record {
      clusters_in_range = between _ _ _ keys.0;
      harts_in_range = between _ _ _ keys.1.0;
      budget_in_range = between _ _ _ keys.1.1.0;
      memory_in_range = memory;
      memory_is_power = power _ even.0;
      memory_in_pages = power_in_pages _ (power _ even.0) memory.low;
      locks_in_range = leb-true _ _ (not-false _ keys.1.1.1.1.0);
      base_in_pages = is_zero _ _ base.0;
      base_in_range = leb-true _ _ base.1;
      l2_in_range = between _ _ _ keys.1.1.1.1.1.1.0;
      l2_is_power = power _ even.1.0;
      l1_in_range = between _ _ _ keys.1.1.1.1.1.1.1.0;
      l1_is_power = power _ even.1.1.0;
      buffer_in_range = between _ _ _ keys.1.1.1.1.1.1.1.1.0;
      acks_in_range = between _ _ _ keys.1.1.1.1.1.1.1.1.1.0;
      prefetch_in_range = leb-true _ _ (not-false _ keys.1.1.1.1.1.1.1.1.1.1.0);
      stack_in_range = between_two _ _ _ stack.1;
      stack_is_aligned = is_zero _ _ stack.0;
      work_in_range = within _ _ (little _ last);
    }
