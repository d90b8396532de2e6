-- Rising lists: two of them with the same events are one, and the events of one cluster rise.
use Rattle.std.proofs.Common.{◌≡◌, ◌⊎◌, inl, inr, ℕ, ◌==◌, Bool, true, false, cond, List, [], ◌∷◌, refl, sym, ◌∙◌, ap, subst, arith}
use Rattle.std.specs.List.{AllByRecursion as Each}
use Rattle.dash_event.specs.declared.event.Event.{Event}
use Rattle.dash_model.specs.Machine.{Precedes, PrecedesAll, IsRising}
use Rattle.dash_model.specs.LocalRun.{events_of}
use Rattle.trace_merge.proofs.Recursion.{each_if}

pub each_of : (e : Event) (es : List Event) → PrecedesAll e es → Each (Precedes e) es
each_of e [] h = tt
each_of e (f ∷ fs) h = (h.0, each_of e fs h.1)

pub precedes_of : (e : Event) (es : List Event) → Each (Precedes e) es → PrecedesAll e es
precedes_of e [] h = tt
precedes_of e (f ∷ fs) h = (h.0, precedes_of e fs h.1)

not_itself : (e : Event) → Precedes e e → ⊥
not_itself e (inl less) = omega arith
not_itself e (inr both) = let less = both.1 in omega arith

not_both : (e f : Event) → Precedes e f → Precedes f e → ⊥
not_both e f (inl p) (inl q) = omega arith
not_both e f (inl p) (inr q) = let same = q.0 in omega arith
not_both e f (inr p) (inl q) = let same = p.0 in omega arith
not_both e f (inr p) (inr q) = let less = p.1 in let more = q.1 in omega arith

-- ---- the events of one cluster

own_if : (c : ℕ) (e : Event) (es own : List Event) (b : Bool) → Each (Precedes e) own → IsRising own → IsRising (cond b (e ∷ own) own)
own_if c e es own true first rest = (precedes_of e own first, rest)
own_if c e es own false first rest = rest

pub own_kept : (P : Event → Type 0) (c : ℕ) (es : List Event) → Each P es → Each P (events_of c es)
unfolding events_of
own_kept P c [] h = tt
own_kept P c (e ∷ es) h = each_if P e (events_of c es) (e.cluster.0 == c) h.0 (own_kept P c es h.1)

pub own_rises : (c : ℕ) (es : List Event) → IsRising es → IsRising (events_of c es)
unfolding events_of
own_rises c [] h = tt
own_rises c (e ∷ es) h = own_if c e es (events_of c es) (e.cluster.0 == c) (own_kept (Precedes e) c es (each_of e es h.0)) (own_rises c es h.1)

-- ---- two rising lists of the same events

-- what holds of each of these holds of each of those
abbrev Has : List Event → List Event → Type 1
Has xs ys = (P : Event → Type 0) → Each P xs → Each P ys

-- x itself, or after it
abbrev pub From : Event → Event → Type 0
From x e = (e ≡ x) ⊎ Precedes x e

pub from_first : (x : Event) (xs : List Event) → PrecedesAll x xs → Each (From x) xs
from_first x [] h = tt
from_first x (e ∷ es) h = (inr h.0, from_first x es h.1)

pub first_is : (x y : Event) → From x y → From y x → y ≡ x
first_is x y (inl e) back = e
first_is x y (inr p) (inl e) = sym e
first_is x y (inr p) (inr q) = absurd (not_both x y p q)

-- a fact of what comes after x, at x it says nothing
abbrev After : Event → (Event → Type 0) → Event → Type 0
After x P e = Precedes x e → P e

after_of : (x : Event) (P : Event → Type 0) (xs : List Event) → Each P xs → Each (After x P) xs
after_of x P [] h = tt
after_of x P (e ∷ es) h = ((λ p. h.0), after_of x P es h.1)

of_after : (x : Event) (P : Event → Type 0) (xs : List Event) → PrecedesAll x xs → Each (After x P) xs → Each P xs
of_after x P [] first h = tt
of_after x P (e ∷ es) first h = (h.0 first.0, of_after x P es first.1 h.1)

rest_has : (x y : Event) (xs ys : List Event) → y ≡ x → PrecedesAll y ys → Has (x ∷ xs) (y ∷ ys) → Has xs ys
rest_has x y xs ys e first has P h =
    of_after x P ys (subst (λ z. PrecedesAll z ys) e first) (has (After x P) ((λ p. absurd (not_itself x p)), after_of x P xs h)).1

pub same_rising : (xs ys : List Event) → IsRising xs → IsRising ys → Has xs ys → Has ys xs → xs ≡ ys
same_rising [] [] rise rose there back = refl
same_rising [] (y ∷ ys) rise rose there back = absurd ((there (λ e. ⊥) tt).0)
same_rising (x ∷ xs) [] rise rose there back = absurd ((back (λ e. ⊥) tt).0)
same_rising (x ∷ xs) (y ∷ ys) rise rose there back =
    let e = first_is x y (there (From x) (inl refl, from_first x xs rise.0)).0 (back (From y) (inl refl, from_first y ys rose.0)).0 in
    ap (λ z. z ∷ xs) (sym e) ∙ ap (λ l. y ∷ l) (same_rising xs ys rise.1 rose.1 (rest_has x y xs ys e rose.0 there) (rest_has y x ys xs (sym e) rise.0 back))
