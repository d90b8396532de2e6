-- Places as a whole set of lines, and what each change of them is to the set.
use Rattle.std.proofs.Common.{◌≡◌, ◌≢◌, ℕ, ◌<◌, ◌%◌, Bool, true, false, cond, not, ◌&&◌, ◌||◌, List, length, get_or, set, Option, Some, None, refl, sym, ap, ◌∙◌, arith}
use Rattle.std.specs.Prelude.{◌==◌, Vec}
use Rattle.std.specs.Vec.{with_items}
use Rattle.std.specs.Ordering.{nat_cmp}
use Rattle.std.specs.FinSet.{contains-empty, retain}
use Rattle.std.proofs.lemmas.Bool.Decides.{nat_tests}
use Rattle.std.proofs.lemmas.List.{length-set, length-replicate}
use Rattle.dash_base.specs.declared.id.LineId.{LineId}
use Rattle.cache_array.specs.Places.{place_at, AreDirect}
use Rattle.cache_array.proofs.LawsOffered.{changed, direct-empty, direct-set, empty_places, its_index, no_index, no_place, set_back}
use Rattle.cache_levels.specs.LineSet.{LineSetView, has, empty_set, with_line, without}
use Rattle.cache_levels.specs.Places.{number, is_place_of, lines_of}
use Rattle.cache_levels.proofs.Sets.{contains-insert_nat, contains-remove_nat, contains-retain_nat, same_nat_set}
use Rattle.cache_levels.proofs.Places.{contains-lines_of_at}

-- the set of places
abbrev pub set_of : List (Option LineId) → LineSetView
set_of ps = record { lines = length ps; held = lines_of ps }

-- each change of a set, tested at any line; and sets that test alike are equal
pub has-empty_set : (n q : ℕ) → has (empty_set n) q ≡ false
unfolding has empty_set
has-empty_set n q = contains-empty nat_cmp q

pub has-with_line : (s : LineSetView) (l q : ℕ) → has (with_line s l) q ≡ ((q == l) || (has s q && not (q % s.lines == l % s.lines)))
unfolding has with_line
has-with_line s l q =
    contains-insert_nat (retain s.held (λ other. not (other % s.lines == l % s.lines))) l q
    ∙ ap (λ b. (q == l) || b) (contains-retain_nat s.held (λ other. not (other % s.lines == l % s.lines)) q)

pub has-without : (s : LineSetView) (l q : ℕ) → has (without s l) q ≡ (not (q == l) && has s q)
unfolding has without
has-without s l q = contains-remove_nat s.held l q

lines-empty_set : (n : ℕ) → (empty_set n).lines ≡ n
unfolding empty_set
lines-empty_set n = refl

lines-with_line : (s : LineSetView) (l : ℕ) → (with_line s l).lines ≡ s.lines
unfolding with_line
lines-with_line s l = refl

lines-without : (s : LineSetView) (l : ℕ) → (without s l).lines ≡ s.lines
unfolding without
lines-without s l = refl

same_line_set : (s t : LineSetView) → s.lines ≡ t.lines → ((q : ℕ) → has s q ≡ has t q) → s ≡ t
unfolding has
same_line_set s t lines same =
    let held = same_nat_set s.held t.held same in
    λ i. record { lines = lines i; held = held i }

-- a place at another index than that of a line does not have it
elsewhere : (n q j : ℕ) (o : Option LineId) → ((l : LineId) → o ≡ Some l → l.0 % n ≡ j) → j ≢ q % n → is_place_of q o ≡ false
elsewhere n q j None own other = refl
elsewhere n q j (Some l) own other = grind (arith, nat_tests, own l refl)

-- a line is there where the place at its index has it
pub has-set_of : (ps : List (Option LineId)) → AreDirect number ps → (q : ℕ) → has (set_of ps) q ≡ is_place_of q (place_at ps q)
unfolding has
has-set_of ps d q = contains-lines_of_at ps (q % length ps) q (λ j other. elsewhere (length ps) q j (get_or ps j None) (d.own j) other)

entered_at : (n l q : ℕ) (p : LineId) (o : Option LineId) → p.0 ≡ l → is_place_of q (cond (q % n == l % n) (Some p) o) ≡ ((q == l) || (is_place_of q o && not (q % n == l % n)))
entered_at n l q p o is =
    elim (q % n == l % n) as (λ b. (q % n == l % n) ≡ b → is_place_of q (cond b (Some p) o) ≡ ((q == l) || (is_place_of q o && not b))) [
      | true ↦ λ same. grind (arith, nat_tests)
      | false ↦ λ other. grind (arith, nat_tests)
    ] refl

-- a place has no more than one line
one_in : (o : Option LineId) (l q : ℕ) → is_place_of l o ≡ true → q ≢ l → is_place_of q o ≡ false
one_in None l q there other = refl
one_in (Some p) l q there other = grind (arith, nat_tests)

cleared_at : (n l q : ℕ) (o : Option LineId) → (q % n ≡ l % n → q ≢ l → is_place_of q o ≡ false) → is_place_of q (cond (q % n == l % n) None o) ≡ (not (q == l) && is_place_of q o)
cleared_at n l q o alone =
    elim (q % n == l % n) as (λ b. (q % n == l % n) ≡ b → is_place_of q (cond b None o) ≡ (not (q == l) && is_place_of q o)) [
      | true ↦ λ same. grind (arith, nat_tests)
      | false ↦ λ other. grind (arith, nat_tests)
    ] refl

module _ (ps : List (Option LineId)) (d : AreDirect number ps) (l : ℕ) where
  has-set : (o : Option LineId) → ((p : LineId) → o ≡ Some p → p.0 % length ps ≡ l % length ps) → (q : ℕ) → has (set_of (set ps (l % length ps) o)) q ≡ is_place_of q (cond (q % length ps == l % length ps) o (place_at ps q))
  has-set o own q =
      has-set_of (set ps (l % length ps) o) (direct-set number ps l o d own) q
      ∙ ap (λ n. is_place_of q (get_or (set ps (l % length ps) o) (q % n) None)) (length-set ps (l % length ps) o)
      ∙ ap (is_place_of q) (changed ps (l % length ps) (q % length ps) o (omega (arith, d.some)))

  set_of-with_line : (p : LineId) → p.0 ≡ l → set_of (set ps (l % length ps) (Some p)) ≡ with_line (set_of ps) l
  set_of-with_line p is =
      same_line_set _ _ (length-set ps (l % length ps) (Some p) ∙ sym (lines-with_line (set_of ps) l))
      (λ q. has-set (Some p) (its_index number (length ps) l p is) q
      ∙ entered_at (length ps) l q p (place_at ps q) is
      ∙ sym (has-with_line (set_of ps) l q ∙ ap (λ b. (q == l) || (b && not (q % length ps == l % length ps))) (has-set_of ps d q)))

  set_of-without : is_place_of l (place_at ps l) ≡ true → set_of (set ps (l % length ps) None) ≡ without (set_of ps) l
  set_of-without there =
      same_line_set _ _ (length-set ps (l % length ps) None ∙ sym (lines-without (set_of ps) l))
      (λ q. has-set None (no_index number (length ps) l) q
      ∙ cleared_at (length ps) l q (place_at ps q) (λ same other. ap (λ i. is_place_of q (get_or ps i None)) same ∙ one_in (place_at ps l) l q there other)
      ∙ sym (has-without (set_of ps) l q ∙ ap (λ b. not (q == l) && b) (has-set_of ps d q)))

  set_of-absent : is_place_of l (place_at ps l) ≡ false → set_of ps ≡ without (set_of ps) l
  set_of-absent absent =
      same_line_set _ _ (sym (lines-without (set_of ps) l))
      (λ q. absent_at q (has-set_of ps d l ∙ absent) ∙ sym (has-without (set_of ps) l q))
    where
      absent_at : (q : ℕ) → has (set_of ps) l ≡ false → has (set_of ps) q ≡ (not (q == l) && has (set_of ps) q)
      absent_at q none = grind (arith, nat_tests)

-- places are direct, and this set
pub record IsSet (ps : List (Option LineId)) (s : LineSetView) : Type 0 where
  pub direct : AreDirect number ps
  pub set_is : set_of ps ≡ s

module _ {Z : Type 0} (v : Vec (Option LineId) Z) (s : LineSetView) (d : AreDirect number v.items) (is : set_of v.items ≡ s) where
  pub enters : (line : LineId) (lent new : List (Option LineId)) → lent ≡ v.items → new ≡ set lent (line.0 % length lent) (Some line) → IsSet (with_items v new).items (with_line s line.0)
  enters line lent new lent_is set_is =
      rw (set_back v lent new line.0 (Some line) lent_is set_is) (record {
        direct = direct-set number v.items line.0 (Some line) d (its_index number (length v.items) line.0 line refl);
        set_is = set_of-with_line v.items d line.0 line refl ∙ ap (λ (t : LineSetView). with_line t line.0) is;
      })

  pub tested : (l : ℕ) (b : Bool) (seen : List (Option LineId)) → seen ≡ v.items → b ≡ is_place_of l (place_at seen l) → b ≡ has s l
  tested l b seen seen_is test =
      test ∙ ap (λ ps. is_place_of l (place_at ps l)) seen_is ∙ sym (has-set_of v.items d l) ∙ ap (λ (t : LineSetView). has t l) is

  module _ (l : ℕ) (seen : List (Option LineId)) (seen_is : seen ≡ v.items) where
    pub clears : (lent new : List (Option LineId)) → is_place_of l (place_at seen l) ≡ true → lent ≡ v.items → new ≡ set lent (l % length lent) None → IsSet (with_items v new).items (without s l)
    clears lent new there lent_is set_is =
        rw (set_back v lent new l None lent_is set_is) (record {
          direct = direct-set number v.items l None d (no_index number (length v.items) l);
          set_is = set_of-without v.items d l (ap (λ ps. is_place_of l (place_at ps l)) (sym seen_is) ∙ there) ∙ ap (λ (t : LineSetView). without t l) is;
        })

    pub stays : is_place_of l (place_at seen l) ≡ false → s ≡ without s l
    stays absent =
        sym is ∙ set_of-absent v.items d l (ap (λ ps. is_place_of l (place_at ps l)) (sym seen_is) ∙ absent) ∙ ap (λ (t : LineSetView). without t l) is

-- no place has a line at the start
pub starts : (n : ℕ) → 0 < n → IsSet (empty_places n) (empty_set n)
starts n some = record {
  direct = direct-empty number n some;
  set_is = same_line_set _ _ (length-replicate {A = Option LineId} n None ∙ sym (lines-empty_set n))
      (λ q. has-set_of (empty_places n) (direct-empty number n some) q
      ∙ ap (is_place_of q) (no_place n (q % length (empty_places {A = LineId} n)))
      ∙ sym (has-empty_set n q));
}
