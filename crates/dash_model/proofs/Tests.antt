-- What tests of numbers and of two conditions tell.
use Rattle.std.proofs.Common.{◌≡◌, ◌≢◌, ℕ, ◌≤◌, ◌<◌, ◌==◌, ◌&&◌, Bool, true, false, cond, nat_lt, refl, arith}
use Rattle.std.proofs.lemmas.Bool.Decides.{nat_tests}
use Rattle.dash_model.specs.OnLine.{one}

pub same : (k : ℕ) → (k == k) ≡ true
same k = grind (arith, nat_tests)

pub is_same : (a b : ℕ) → (a == b) ≡ true → a ≡ b
is_same a b e = grind (arith, nat_tests)

pub not_same : (a b : ℕ) → (a == b) ≡ false → a ≢ b
not_same a b e = grind (arith, nat_tests)

pub differ : (a b : ℕ) → a ≢ b → (a == b) ≡ false
differ a b d = grind (arith, nat_tests)

pub below : (a n : ℕ) → a < n → nat_lt a n ≡ true
below a n l = grind (arith, nat_tests)

pub is_below : (a n : ℕ) → nat_lt a n ≡ true → a < n
is_below a n e = grind (arith, nat_tests)

pub both : (a b : Bool) → a ≡ true → b ≡ true → a && b ≡ true
both true true e f = refl
both true false e f = f
both false b e f = absurd (cc)

pub both_left : (a b : Bool) → a && b ≡ true → a ≡ true
both_left true b e = refl
both_left false b e = absurd (cc)

pub both_right : (a b : Bool) → a && b ≡ true → b ≡ true
both_right true b e = e
both_right false b e = absurd (cc)

pub one_same : (k : ℕ) → one k k ≡ 1
one_same k = grind (arith, nat_tests)

pub one_other : (k i : ℕ) → k ≢ i → one k i ≡ 0
one_other k i d = grind (arith, nat_tests)

pub at_most_one : (b : Bool) → cond b 1 0 ≤ 1
at_most_one true = omega arith
at_most_one false = omega arith
