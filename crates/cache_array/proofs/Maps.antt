-- The map of places, read at a line: what the place at one index has, where no other place has the line.
use Rattle.std.proofs.Common.{◌≡◌, ◌≢◌, ℕ, zero, suc, cond, List, [], ◌∷◌, Option, Some, None, get_or, refl, ap, ◌∙◌, arith}
use Rattle.std.specs.Prelude.{◌==◌}
use Rattle.std.specs.FinMap.{get}
use Rattle.std.proofs.lemmas.Bool.Decides.{nat_tests}
use Rattle.dash_base.specs.declared.line.Line.{Line}
use Rattle.cache_array.specs.declared.places.Place.{Place}
use Rattle.cache_array.specs.Places.{copy_in, map_of}
use Rattle.cache_array.proofs.LineMaps.{get-empty_nat, get-insert_nat}

-- the first of two copies that is there
abbrev first_of : Option Line → Option Line → Option Line
first_of None rest = rest
first_of (Some c) rest = Some c

first_of-none : (o : Option Line) → first_of o None ≡ o
first_of-none None = refl
first_of-none (Some c) = refl

in_front : (p : Place) (q : ℕ) (rest : Option Line) → cond (q == p.line.0) (Some p.copy) rest ≡ first_of (copy_in q (Some p)) rest
in_front p q rest = grind (arith, nat_tests)

get-map_of-nil : (q : ℕ) → get (map_of []) q ≡ None
unfolding map_of
get-map_of-nil q = get-empty_nat q

get-map_of-cons : (o : Option Place) (ps : List (Option Place)) (q : ℕ) → get (map_of (o ∷ ps)) q ≡ first_of (copy_in q o) (get (map_of ps) q)
unfolding map_of
get-map_of-cons None ps q = refl
get-map_of-cons (Some p) ps q = get-insert_nat (map_of ps) p.line.0 p.copy q ∙ in_front p q (get (map_of ps) q)

get-map_of_none : (ps : List (Option Place)) (q : ℕ) → ((i : ℕ) → copy_in q (get_or ps i None) ≡ None) → get (map_of ps) q ≡ None
get-map_of_none [] q none = get-map_of-nil q
get-map_of_none (o ∷ ps) q none =
    get-map_of-cons o ps q
    ∙ ap (λ x. first_of x (get (map_of ps) q)) (none 0)
    ∙ get-map_of_none ps q (λ i. none (suc i))

pub get-map_of_at : (ps : List (Option Place)) (i q : ℕ) → ((j : ℕ) → j ≢ i → copy_in q (get_or ps j None) ≡ None) → get (map_of ps) q ≡ copy_in q (get_or ps i None)
get-map_of_at [] i q apart = get-map_of-nil q
get-map_of_at (o ∷ ps) zero q apart =
    get-map_of-cons o ps q
    ∙ ap (first_of (copy_in q o)) (get-map_of_none ps q (λ j. apart (suc j) (omega arith)))
    ∙ first_of-none (copy_in q o)
get-map_of_at (o ∷ ps) (suc i) q apart =
    get-map_of-cons o ps q
    ∙ ap (λ x. first_of x (get (map_of ps) q)) (apart 0 (omega arith))
    ∙ get-map_of_at ps i q (λ j other. apart (suc j) (omega arith))
