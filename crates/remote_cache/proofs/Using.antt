-- The slots that are used, while they are looked at one after another.
use Rattle.std.proofs.Common.{◌≡◌, ◌⊎◌, inl, inr, ℕ, ◌+◌, ◌<◌, ◌≤◌, true, false, List, length, get_or, Option, Some, None, is_some, refl, subst, arith}
use Rattle.std.proofs.lemmas.Bool.{cases_lt}
use Rattle.std.proofs.lemmas.List.{get_or_past}
use Rattle.remote_cache.specs.declared.slot.Slot.{Slot}
use Rattle.remote_cache.specs.View.{IsUsed}

pub record UsedSoFar (slots : List (Option Slot)) (id n : ℕ) : Type 0 where
  pub within : n ≤ id
  pub rest : (m : ℕ) → n ≤ m → m < id → get_or slots m None ≡ None
  pub last : (m : ℕ) → n ≡ m + 1 → is_some (get_or slots m None) ≡ true

pub none_used : (slots : List (Option Slot)) → UsedSoFar slots 0 0
none_used slots = record { within = omega arith; rest = λ m high low. absurd (omega (arith, low)); last = λ m e. absurd (omega (arith, e)) }

pub one_used : (slots : List (Option Slot)) (id n : ℕ) → UsedSoFar slots id n → is_some (get_or slots id None) ≡ true → UsedSoFar slots (id + 1) (id + 1)
one_used slots id n had some = record {
  within = omega arith;
  rest = λ m high low. absurd (omega (arith, high, low));
  last = λ m e. let same : id ≡ m = omega (arith, e) in subst (λ j. is_some (get_or slots j None) ≡ true) same some;
}

none_if : (o : Option Slot) → is_some o ≡ false → o ≡ None
none_if None e = refl
none_if (Some x) e = absurd (cc)

rest_at : (slots : List (Option Slot)) (id n m : ℕ) → UsedSoFar slots id n → is_some (get_or slots id None) ≡ false → n ≤ m → m < id + 1 → (m < id) ⊎ (id ≤ m) → get_or slots m None ≡ None
rest_at slots id n m had none high low (inl less) = had.rest m high less
rest_at slots id n m had none high low (inr more) = let same : id ≡ m = omega (arith, low, more) in subst (λ j. get_or slots j None ≡ None) same (none_if (get_or slots id None) none)

pub one_unused : (slots : List (Option Slot)) (id n : ℕ) → UsedSoFar slots id n → is_some (get_or slots id None) ≡ false → UsedSoFar slots (id + 1) n
one_unused slots id n had none = record {
  within = let w = had.within in omega (arith, w);
  rest = λ m high low. rest_at slots id n m had none high low (cases_lt m id);
  last = had.last;
}

rest_all : (slots : List (Option Slot)) (id n m : ℕ) → UsedSoFar slots id n → length slots ≤ id → n ≤ m → (m < id) ⊎ (id ≤ m) → get_or slots m None ≡ None
rest_all slots id n m had all high (inl less) = had.rest m high less
rest_all slots id n m had all high (inr more) = get_or_past slots m None (omega (arith, all, more))

pub all_used : (slots : List (Option Slot)) (id n : ℕ) → UsedSoFar slots id n → length slots ≤ id → IsUsed slots n
all_used slots id n had all = record {
  rest = λ m high. rest_all slots id n m had all high (cases_lt m id);
  last = had.last;
}
