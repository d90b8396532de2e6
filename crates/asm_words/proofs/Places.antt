-- The first place at which a test passes.
use Rattle.std.proofs.Common.{◌≡◌, ℕ, ◌+◌, ◌≤◌, reverse, Bool, true, false, cond, ltb, length, List, [], ◌∷◌, Option, Some, None, unwrap_or, position, refl, ap, sym, ◌∙◌, arith}
use Rattle.std.specs.List.{position_or_len}
use Rattle.std.proofs.lemmas.List.{length-reverse}
use Rattle.std.proofs.lemmas.Bool.Decides.{nat_tests}

pub at_most : (p : ℕ → Bool) (xs : List ℕ) → position_or_len p xs ≤ length xs
at_most p [] = omega arith
at_most p (x ∷ xs) = let shorter = at_most p xs in grind (arith, nat_tests)

place : (b : Bool) (k n : ℕ) → k ≤ n → ltb k n ≡ b → unwrap_or (cond b (Some k) None) n ≡ k
place true k n most is = refl
place false k n most is = grind (arith, nat_tests)

pub place_is : (p : ℕ → Bool) (xs : List ℕ) → unwrap_or (position p xs) (length xs) ≡ position_or_len p xs
place_is p xs = place _ (position_or_len p xs) (length xs) (at_most p xs) refl

-- the same from the end
pub at_most_from_end : (p : ℕ → Bool) (xs : List ℕ) → position_or_len p (reverse xs) ≤ length xs
at_most_from_end p xs = let most = at_most p (reverse xs) in omega (arith, length-reverse {A = ℕ})

pub place_from_end : (p : ℕ → Bool) (xs : List ℕ) → unwrap_or (position p (reverse xs)) (length xs) ≡ position_or_len p (reverse xs)
place_from_end p xs = ap (unwrap_or (position p (reverse xs))) (sym (length-reverse xs)) ∙ place_is p (reverse xs)
