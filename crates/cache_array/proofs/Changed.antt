-- Places with one that is set or emptied, and all empty, as a whole array.
use Rattle.std.proofs.Common.{◌≡◌, ◌≢◌, ℕ, ◌<◌, ◌%◌, true, false, cond, List, length, get_or, set, Option, Some, None, is_some, refl, sym, ap, ◌∙◌, subst, arith}
use Rattle.std.specs.Prelude.{◌==◌, Vec}
use Rattle.std.specs.Vec.{with_items}
use Rattle.std.proofs.lemmas.Bool.Decides.{nat_tests}
use Rattle.std.proofs.lemmas.List.{length-set, length-replicate}
use Rattle.dash_base.specs.declared.line.Line.{Line}
use Rattle.dash_base.specs.declared.id.LineId.{LineId}
use Rattle.cache_array.specs.declared.places.Place.{Place}
use Rattle.cache_array.specs.Places.{place_at, copy_in, number, AreDirect}
use Rattle.cache_array.specs.View.{ArrayView, copy_at, has_line, empty_array, with_copy, without_line, HasRoom}
use Rattle.cache_array.proofs.Lines.{copy_at-empty_array, lines-empty_array, copy_at-with_copy, copy_at-without_line, lines-with_copy, lines-without_line}
use Rattle.cache_array.proofs.Direct.{changed, direct-set, its_index, no_index, set_back, empty_places, no_place, direct-empty}
use Rattle.cache_array.proofs.Held.{array_of, same_array, copy_at-array_of, array_of-one_per_index}

set_at : (n l q : ℕ) (p : Place) (o : Option Place) (r : Option Line) → p.line.0 ≡ l → r ≡ copy_in q o → (q ≢ l → q % n ≡ l % n → r ≡ None) → copy_in q (cond (q % n == l % n) (Some p) o) ≡ cond (q == l) (Some p.copy) r
set_at n l q p o r is here alone =
    elim (q % n == l % n) as (λ b. (q % n == l % n) ≡ b → copy_in q (cond b (Some p) o) ≡ cond (q == l) (Some p.copy) r) [
      | true ↦ λ same. grind (arith, nat_tests)
      | false ↦ λ other. sym here ∙ grind (arith, nat_tests)
    ] refl

clear_at : (n l q : ℕ) (o : Option Place) (r : Option Line) → r ≡ copy_in q o → (q ≢ l → q % n ≡ l % n → r ≡ None) → copy_in q (cond (q % n == l % n) None o) ≡ cond (q == l) None r
clear_at n l q o r here alone =
    elim (q % n == l % n) as (λ b. (q % n == l % n) ≡ b → copy_in q (cond b None o) ≡ cond (q == l) None r) [
      | true ↦ λ same. grind (arith, nat_tests)
      | false ↦ λ other. sym here ∙ grind (arith, nat_tests)
    ] refl

module _ (ps : List (Option Place)) (a : AreDirect number ps) (l : ℕ) where
  copy_at-set : (o : Option Place) → ((p : Place) → o ≡ Some p → number p % length ps ≡ l % length ps) → (q : ℕ) → copy_at (array_of (set ps (l % length ps) o)) q ≡ copy_in q (cond (q % length ps == l % length ps) o (place_at ps q))
  copy_at-set o own q =
      copy_at-array_of (set ps (l % length ps) o) (direct-set number ps l o a own) q
      ∙ ap (λ n. copy_in q (get_or (set ps (l % length ps) o) (q % n) None)) (length-set ps (l % length ps) o)
      ∙ ap (copy_in q) (changed ps (l % length ps) (q % length ps) o (omega (arith, a.some)))

  -- a line has no copy where another one has its index
  alone : (q : ℕ) (r : Option Line) → HasRoom (array_of ps) l → q ≢ l → q % length ps ≡ l % length ps → copy_at (array_of ps) q ≡ r → r ≡ None
  alone q None room other same e = refl
  alone q (Some c) room other same e = absurd (other (room.alone q (ap is_some e) same))

  array_of-set : (p : Place) → p.line.0 ≡ l → HasRoom (array_of ps) l → array_of (set ps (l % length ps) (Some p)) ≡ with_copy (array_of ps) l p.copy
  array_of-set p is room =
      same_array _ _ (length-set ps (l % length ps) (Some p) ∙ sym (lines-with_copy (array_of ps) l p.copy))
      (λ q. copy_at-set (Some p) (its_index number (length ps) l p is) q
      ∙ set_at (length ps) l q p (place_at ps q) (copy_at (array_of ps) q) is (copy_at-array_of ps a q) (λ other same. alone q _ room other same refl)
      ∙ sym (copy_at-with_copy (array_of ps) l p.copy q))

  array_of-clear : HasRoom (array_of ps) l → array_of (set ps (l % length ps) None) ≡ without_line (array_of ps) l
  array_of-clear room =
      same_array _ _ (length-set ps (l % length ps) None ∙ sym (lines-without_line (array_of ps) l))
      (λ q. copy_at-set None (no_index number (length ps) l) q
      ∙ clear_at (length ps) l q (place_at ps q) (copy_at (array_of ps) q) (copy_at-array_of ps a q) (λ other same. alone q _ room other same refl)
      ∙ sym (copy_at-without_line (array_of ps) l q))

  array_of-absent : copy_in l (place_at ps l) ≡ None → array_of ps ≡ without_line (array_of ps) l
  array_of-absent absent =
      same_array _ _ (sym (lines-without_line (array_of ps) l))
      (λ q. absent_at q (copy_at-array_of ps a l ∙ absent) ∙ sym (copy_at-without_line (array_of ps) l q))
    where
      absent_at : (q : ℕ) → copy_at (array_of ps) l ≡ None → copy_at (array_of ps) q ≡ cond (q == l) None (copy_at (array_of ps) q)
      absent_at q none = grind (arith, nat_tests)

-- places are direct, and this array
pub record IsArray (ps : List (Option Place)) (a : ArrayView) : Type 0 where
  pub direct : AreDirect number ps
  pub array : array_of ps ≡ a

module _ {Z : Type 0} (v : Vec (Option Place) Z) (b : ArrayView) (a : AreDirect number v.items) (is : array_of v.items ≡ b) where
  -- a line that is set
  pub sets : (line : LineId) (copy : Line) → HasRoom b line.0 → (lent new : List (Option Place)) → lent ≡ v.items → new ≡ set lent (line.0 % length lent) (Some (record { line = line; copy = copy })) → IsArray (with_items v new).items (with_copy b line.0 copy)
  sets line copy room lent new lent_is set_is =
      let p : Place = record { line = line; copy = copy } in
      rw (set_back v lent new line.0 (Some p) lent_is set_is) (record {
        direct = direct-set number v.items line.0 (Some p) a (its_index number (length v.items) line.0 p refl);
        array = array_of-set v.items a line.0 p refl (subst (λ (c : ArrayView). HasRoom c line.0) (sym is) room)
            ∙ ap (λ (c : ArrayView). with_copy c line.0 copy) is;
      })

  module _ (l : ℕ) (seen : List (Option Place)) (seen_is : seen ≡ v.items) where
    held_here : is_some (copy_in l (place_at seen l)) ≡ true → has_line (array_of v.items) l ≡ true
    held_here held = ap is_some (copy_at-array_of v.items a l) ∙ ap (λ ps. is_some (copy_in l (place_at ps l))) (sym seen_is) ∙ held

    -- a line that is cleared, and one that is not there
    pub clears : (lent new : List (Option Place)) → is_some (copy_in l (place_at seen l)) ≡ true → lent ≡ v.items → new ≡ set lent (l % length lent) None → IsArray (with_items v new).items (without_line b l)
    clears lent new held lent_is set_is =
        rw (set_back v lent new l None lent_is set_is) (record {
          direct = direct-set number v.items l None a (no_index number (length v.items) l);
          array = array_of-clear v.items a l ((array_of-one_per_index v.items a).one l (held_here held))
              ∙ ap (λ (c : ArrayView). without_line c l) is;
        })

    pub stays : (r : Option Line) → r ≡ copy_in l (place_at seen l) → is_some r ≡ false → b ≡ without_line b l
    stays None here absent =
        sym is ∙ array_of-absent v.items a l (ap (λ ps. copy_in l (place_at ps l)) (sym seen_is) ∙ sym here) ∙ ap (λ (c : ArrayView). without_line c l) is
    stays (Some c) here absent = cc

-- no place has a line at the start
pub starts : (n : ℕ) → 0 < n → IsArray (empty_places n) (empty_array n)
starts n some = record {
  direct = direct-empty number n some;
  array = same_array _ _ (length-replicate {A = Option Place} n None ∙ sym (lines-empty_array n))
      (λ q. copy_at-array_of (empty_places n) (direct-empty number n some) q
      ∙ ap (copy_in q) (no_place n (q % length (empty_places {A = Place} n)))
      ∙ sym (copy_at-empty_array n q));
}
