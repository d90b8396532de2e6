-- The lines that have places, tested at a line: by the place at one index, where no other place has the line.
use Rattle.std.proofs.Common.{◌≡◌, ◌≢◌, ℕ, zero, suc, Bool, false, ◌||◌, List, [], ◌∷◌, Option, Some, None, get_or, refl, ap, ◌∙◌, arith}
use Rattle.std.specs.Prelude.{◌==◌}
use Rattle.std.specs.Ordering.{nat_cmp}
use Rattle.std.specs.FinSet.{contains, contains-empty}
use Rattle.std.proofs.lemmas.Bool.Decides.{nat_tests}
use Rattle.dash_base.specs.declared.id.LineId.{LineId}
use Rattle.cache_levels.specs.Places.{is_place_of, lines_of}
use Rattle.cache_levels.proofs.Sets.{contains-insert_nat}

flip : (a b : ℕ) → (a == b) ≡ (b == a)
flip a b = grind (arith, nat_tests)

or_false : (b : Bool) → (b || false) ≡ b
or_false b = grind (arith, nat_tests)

contains-lines_of-nil : (q : ℕ) → contains (lines_of []) q ≡ false
unfolding lines_of
contains-lines_of-nil q = contains-empty nat_cmp q

contains-lines_of-cons : (o : Option LineId) (ps : List (Option LineId)) (q : ℕ) → contains (lines_of (o ∷ ps)) q ≡ (is_place_of q o || contains (lines_of ps) q)
unfolding lines_of
contains-lines_of-cons None ps q = refl
contains-lines_of-cons (Some l) ps q = contains-insert_nat (lines_of ps) l.0 q ∙ ap (λ b. b || contains (lines_of ps) q) (flip q l.0)

contains-lines_of_none : (ps : List (Option LineId)) (q : ℕ) → ((i : ℕ) → is_place_of q (get_or ps i None) ≡ false) → contains (lines_of ps) q ≡ false
contains-lines_of_none [] q none = contains-lines_of-nil q
contains-lines_of_none (o ∷ ps) q none =
    contains-lines_of-cons o ps q
    ∙ ap (λ b. b || contains (lines_of ps) q) (none 0)
    ∙ contains-lines_of_none ps q (λ i. none (suc i))

pub contains-lines_of_at : (ps : List (Option LineId)) (i q : ℕ) → ((j : ℕ) → j ≢ i → is_place_of q (get_or ps j None) ≡ false) → contains (lines_of ps) q ≡ is_place_of q (get_or ps i None)
contains-lines_of_at [] i q apart = contains-lines_of-nil q
contains-lines_of_at (o ∷ ps) zero q apart =
    contains-lines_of-cons o ps q
    ∙ ap (λ b. is_place_of q o || b) (contains-lines_of_none ps q (λ j. apart (suc j) (omega arith)))
    ∙ or_false (is_place_of q o)
contains-lines_of_at (o ∷ ps) (suc i) q apart =
    contains-lines_of-cons o ps q
    ∙ ap (λ b. b || contains (lines_of ps) q) (apart 0 (omega arith))
    ∙ contains-lines_of_at ps i q (λ j other. apart (suc j) (omega arith))
