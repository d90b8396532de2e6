-- A rising list with a member has it, and all that it had.
use Rattle.std.proofs.Common.{◌≡◌, ℕ, ◌==◌, Bool, true, false, cond, nat_lt, List, [], ◌∷◌, refl, arith}
use Rattle.std.proofs.lemmas.Bool.Decides.{nat_tests}
use Rattle.dash_model.specs.Maps.{member, with_member}

member_here : (f x : ℕ) (cs : List ℕ) (i j : Bool) → (x == f) ≡ i → nat_lt f x ≡ j → member f (with_member f cs) ≡ true
    → member f (cond i (x ∷ cs) (cond j (f ∷ x ∷ cs) (x ∷ with_member f cs))) ≡ true
unfolding member
member_here f x cs true j e g h = grind (arith, nat_tests)
member_here f x cs false true e g h = grind (arith, nat_tests)
member_here f x cs false false e g h = grind (arith, nat_tests)

-- a list with a member has it, and all that it had
pub member-with : (f : ℕ) (cs : List ℕ) → member f (with_member f cs) ≡ true
unfolding member with_member
member-with f [] = grind (arith, nat_tests)
member-with f (x ∷ cs) = member_here f x cs (x == f) (nat_lt f x) refl refl (member-with f cs)

member_there : (f x y : ℕ) (cs : List ℕ) (i j : Bool) → member y (x ∷ cs) ≡ true → (member y cs ≡ true → member y (with_member f cs) ≡ true)
    → member y (cond i (x ∷ cs) (cond j (f ∷ x ∷ cs) (x ∷ with_member f cs))) ≡ true
unfolding member
member_there f x y cs true j h ih = h
member_there f x y cs false true h ih = grind (arith, nat_tests)
member_there f x y cs false false h ih = grind (arith, nat_tests)

empty_member : (f y : ℕ) → member y [] ≡ true → member y (f ∷ []) ≡ true
unfolding member
empty_member f y h = absurd (cc)

pub member-still : (f y : ℕ) (cs : List ℕ) → member y cs ≡ true → member y (with_member f cs) ≡ true
unfolding with_member
member-still f y [] h = empty_member f y h
member-still f y (x ∷ cs) h = member_there f x y cs (x == f) (nat_lt f x) h (member-still f y cs)

pub member_self : (r : ℕ) → member r (r ∷ []) ≡ true
unfolding member
member_self r = grind (arith, nat_tests)
