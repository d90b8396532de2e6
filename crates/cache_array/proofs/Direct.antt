-- Places of whatever has a line, one at each index: set, emptied, and all empty.
use Rattle.std.proofs.Common.{◌≡◌, ℕ, ◌<◌, ◌%◌, cond, List, length, get_or, set, replicate, Option, Some, None, refl, sym, ap, ◌∙◌, subst, arith}
use Rattle.std.specs.Prelude.{◌==◌, Vec}
use Rattle.std.specs.Vec.{with_items}
use Rattle.std.proofs.lemmas.Bool.Decides.{nat_tests}
use Rattle.std.proofs.lemmas.Option.{same_Some, none-some}
use Rattle.std.proofs.lemmas.List.{get_or-set_same, get_or-set_other, length-set, length-replicate, get_or-replicate, get_or_past, with_items_is}
use Rattle.cache_array.specs.Places.{AreDirect}

-- a place that is changed, and every other one
pub changed : {A : Type 0} (ps : List (Option A)) (i j : ℕ) (o : Option A) → i < length ps → get_or (set ps i o) j None ≡ cond (j == i) o (get_or ps j None)
changed ps i j o low = grind (arith, nat_tests, get_or-set_same ps i o None low, get_or-set_other ps i j o None)

at_own : {A : Type 0} (number : A → ℕ) (n i j : ℕ) (o old : Option A) (p : A) → ((p : A) → o ≡ Some p → number p % n ≡ i) → ((p : A) → old ≡ Some p → number p % n ≡ j) → cond (j == i) o old ≡ Some p → number p % n ≡ j
at_own number n i j o old p new before e = grind (arith, nat_tests, new p, before p)

-- places stay direct where one is set to a line of its index, or emptied
pub direct-set : {A : Type 0} (number : A → ℕ) (ps : List (Option A)) (l : ℕ) (o : Option A) → AreDirect number ps → ((p : A) → o ≡ Some p → number p % length ps ≡ l % length ps) → AreDirect number (set ps (l % length ps) o)
direct-set number ps l o a own =
    let low : l % length ps < length ps = omega (arith, a.some) in
    record {
      some = omega (arith, a.some, length-set ps (l % length ps) o);
      own = λ j p e. rw (length-set ps (l % length ps) o) (at_own number (length ps) (l % length ps) j o (get_or ps j None) p own (a.own j) (sym (changed ps (l % length ps) j o low) ∙ e));
    }

pub its_index : {A : Type 0} (number : A → ℕ) (n l : ℕ) (p : A) → number p ≡ l → (x : A) → Some p ≡ Some x → number x % n ≡ l % n
its_index number n l p is x same = ap (λ y. number y % n) (sym (same_Some p x same)) ∙ ap (λ m. m % n) is

pub no_index : {A : Type 0} (number : A → ℕ) (n l : ℕ) (x : A) → None ≡ Some x → number x % n ≡ l % n
no_index number n l x same = absurd (none-some x same)

-- what was lent of places comes back with one of them set
pub set_back : {A Z : Type 0} (v : Vec (Option A) Z) (lent new : List (Option A)) (l : ℕ) (o : Option A) → lent ≡ v.items → new ≡ set lent (l % length lent) o → (with_items v new).items ≡ set v.items (l % length v.items) o
set_back {A} v lent new l o lent_is set_is =
    let here = subst (λ (xs : List (Option A)). new ≡ set xs (l % length xs) o) lent_is set_is in
    with_items_is v new (omega (arith, ap length here, length-set v.items (l % length v.items) o)) ∙ here

-- what is a clone of an empty place is one
pub empty_clone : {A : Type 0} (IsClone : Option A → Type 0) → ((p : A) → IsClone (Some p) → ⊥) → (o : Option A) → IsClone o → o ≡ None
empty_clone IsClone never None same = refl
empty_clone IsClone never (Some p) same = absurd (never p same)

-- so many empty places
abbrev pub empty_places : {A : Type 0} → ℕ → List (Option A)
empty_places n = replicate n None

-- none of which has a line
pub no_place : {A : Type 0} (n i : ℕ) → get_or (empty_places {A = A} n) i None ≡ None
no_place {A} n i = none (get_or-replicate {A = Option A} n i None None)
  where
    none : (i < n → get_or (empty_places {A = A} n) i None ≡ None) → get_or (empty_places {A = A} n) i None ≡ None
    none within = grind (arith, get_or_past (empty_places {A = A} n) i None, length-replicate {A = Option A} n None)

pub direct-empty : {A : Type 0} (number : A → ℕ) (n : ℕ) → 0 < n → AreDirect number (empty_places n)
direct-empty {A} number n some = record {
  some = omega (arith, some, length-replicate {A = Option A} n None);
  own = λ i p e. absurd (none-some p (sym (no_place n i) ∙ e));
}
