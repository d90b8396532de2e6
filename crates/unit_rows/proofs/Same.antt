-- Numbers that are one or not, and maps that are changed at one.
use Rattle.std.proofs.Common.{◌≡◌, ◌≢◌, ◌⊎◌, ℕ, ◌==◌, Bool, true, false, cond, refl, arith}
use Rattle.std.proofs.lemmas.Bool.Decides.{nat_tests}
use Rattle.dash_model.specs.Maps.{upd}

pub same_or_not : (i j : ℕ) → (i ≡ j) ⊎ (i ≢ j)
same_or_not i j = grind (arith, nat_tests)

pub is_same : (i j : ℕ) → (i == j) ≡ true → i ≡ j
is_same i j e = grind (arith, nat_tests)

pub test_same : (i : ℕ) → (i == i) ≡ true
test_same i = grind (arith, nat_tests)

pub test_differ : (i j : ℕ) → i ≢ j → (i == j) ≡ false
test_differ i j n = grind (arith, nat_tests)

pub is_not_same : (i j : ℕ) → (i == j) ≡ false → i ≢ j
is_not_same i j e s = let t : (i == j) ≡ true = grind (arith, nat_tests) in absurd (cc)

-- a fact of a map that is changed at one number
at_by : {A : Type 0} (P : A → Type 0) (f : ℕ → A) (k i : ℕ) (x : A) (b : Bool) → (i == k) ≡ b → (i ≡ k → P x) → (i ≢ k → P (f i)) → P (cond b x (f i))
at_by P f k i x true e here there = here (is_same i k e)
at_by P f k i x false e here there = there (is_not_same i k e)

pub at_upd : {A : Type 0} (P : A → Type 0) (f : ℕ → A) (k i : ℕ) (x : A) → (i ≡ k → P x) → (i ≢ k → P (f i)) → P (upd f k x i)
at_upd P f k i x here there = at_by P f k i x (i == k) refl here there
