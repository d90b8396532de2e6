-- What places show as a whole array: copies, room, and the other line of an index.
use Rattle.std.proofs.Common.{◌≡◌, ◌≢◌, ℕ, ◌%◌, true, false, cond, List, length, get_or, Option, Some, None, is_some, refl, sym, ap, ◌∙◌, arith}
use Rattle.std.specs.Prelude.{◌==◌, MatchOption}
use Rattle.std.proofs.lemmas.Bool.Decides.{nat_tests}
use Rattle.cache_array.specs.declared.places.Place.{Place}
use Rattle.cache_array.specs.Places.{place_at, copy_in, other_in, map_of, number, AreDirect}
use Rattle.cache_array.specs.View.{ArrayView, copy_at, has_line, HasRoom, IsOther, IsOnePerIndex}
use Rattle.cache_array.proofs.LineMaps.{same_nat_map}
use Rattle.cache_array.proofs.Maps.{get-map_of_at}

-- the array of places
abbrev pub array_of : List (Option Place) → ArrayView
array_of ps = record { lines = length ps; copies = map_of ps }

-- arrays that read alike are equal
pub same_array : (a b : ArrayView) → a.lines ≡ b.lines → ((q : ℕ) → copy_at a q ≡ copy_at b q) → a ≡ b
unfolding copy_at
same_array a b lines same =
    let copies = same_nat_map a.copies b.copies same in
    λ i. record { lines = lines i; copies = copies i }

-- a place at another index than that of a line has no copy of it
elsewhere : (n q j : ℕ) (o : Option Place) → ((p : Place) → o ≡ Some p → p.line.0 % n ≡ j) → j ≢ q % n → copy_in q o ≡ None
elsewhere n q j None own other = refl
elsewhere n q j (Some p) own other = grind (arith, nat_tests, own p refl)

-- the copy of a line is in the place at its index
pub copy_at-array_of : (ps : List (Option Place)) → AreDirect number ps → (q : ℕ) → copy_at (array_of ps) q ≡ copy_in q (place_at ps q)
unfolding copy_at
copy_at-array_of ps a q = get-map_of_at ps (q % length ps) q (λ j other. elsewhere (length ps) q j (get_or ps j None) (a.own j) other)

-- a line that is there has the place of its index
held_in : (ps : List (Option Place)) → AreDirect number ps → (q l : ℕ) → has_line (array_of ps) q ≡ true → q % length ps ≡ l % length ps → is_some (copy_in q (place_at ps l)) ≡ true
held_in ps a q l held same =
    ap (λ i. is_some (copy_in q (get_or ps i None))) (sym same) ∙ ap is_some (sym (copy_at-array_of ps a q)) ∙ held

-- a place has no more than one line
one_in : (o : Option Place) (q r : ℕ) → is_some (copy_in q o) ≡ true → is_some (copy_in r o) ≡ true → q ≡ r
one_in None q r x y = cc
one_in (Some p) q r x y = grind (arith, nat_tests)

pub array_of-one_per_index : (ps : List (Option Place)) → AreDirect number ps → IsOnePerIndex (array_of ps)
array_of-one_per_index ps a = record {
  one = λ line h. record { alone = λ q k same. one_in (place_at ps line) q line (held_in ps a q line k same) (held_in ps a line line h refl) };
}

-- what the place at an index says of another line there
other_of : (ps : List (Option Place)) → AreDirect number ps → (l : ℕ) (o : Option Place) → place_at ps l ≡ o → MatchOption (other_in l o) (HasRoom (array_of ps) l) (λ other. IsOther (array_of ps) l other.0)
other_of ps a l None is = record { alone = λ q k same. none q (ap (λ o. is_some (copy_in q o)) (sym is) ∙ held_in ps a q l k same) }
  where
    none : (q : ℕ) → false ≡ true → q ≡ l
    none q e = cc
other_of ps a l (Some x) is =
    elim (x.line.0 == l) as (λ b. (x.line.0 == l) ≡ b → MatchOption (cond b None (Some x.line)) (HasRoom (array_of ps) l) (λ other. IsOther (array_of ps) l other.0)) [
      | true ↦ λ own. record { alone = λ q k same. its_own own q (ap (λ o. is_some (copy_in q o)) (sym is) ∙ held_in ps a q l k same) }
      | false ↦ λ other. record {
        held = ap is_some (copy_at-array_of ps a x.line.0) ∙ ap (λ i. is_some (copy_in x.line.0 (get_or ps i None))) here ∙ ap (λ o. is_some (copy_in x.line.0 o)) is ∙ there;
        apart = λ same. grind (arith, nat_tests);
        index = here;
      }
    ] refl
  where
    here : x.line.0 % length ps ≡ l % length ps
    here = a.own (l % length ps) x is

    there : is_some (copy_in x.line.0 (Some x)) ≡ true
    there = grind (arith, nat_tests)

    its_own : (x.line.0 == l) ≡ true → (q : ℕ) → is_some (copy_in q (Some x)) ≡ true → q ≡ l
    its_own own q held = grind (arith, nat_tests)

pub other_at_place : (ps : List (Option Place)) → AreDirect number ps → (l : ℕ) → MatchOption (other_in l (place_at ps l)) (HasRoom (array_of ps) l) (λ other. IsOther (array_of ps) l other.0)
other_at_place ps a l = other_of ps a l (place_at ps l) refl
