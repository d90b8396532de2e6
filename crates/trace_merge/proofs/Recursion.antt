-- Facts of all events of a list, by recursion; and of those of one cluster.
use Rattle.std.proofs.Common.{◌≡◌, ℕ, ◌==◌, Bool, true, false, cond, List, [], ◌∷◌, ◌++◌, refl, ◌∙◌, ap, arith}
use Rattle.std.specs.List.{filter, AllByRecursion as Each}
use Rattle.std.specs.List.Sorted.{IsPermutation}
use Rattle.std.proofs.lemmas.List.Elements.{All-from_recursion, recursion_from_All}
use Rattle.std.proofs.lemmas.List.Sorted.{All-permutation}
use Rattle.std.proofs.lemmas.Bool.Decides.{nat_tests}
use Rattle.dash_event.specs.declared.event.Event.{Event}
use Rattle.dash_model.specs.LocalRun.{events_of}

module _ {X : Type 0} (P : X → Type 0) where
  pub each_if : (x : X) (xs : List X) (b : Bool) → P x → Each P xs → Each P (cond b (x ∷ xs) xs)
  each_if x xs true p q = (p, q)
  each_if x xs false p q = q

  pub each_kept : (test : X → Bool) (xs : List X) → Each P xs → Each P (filter test xs)
  each_kept test [] h = tt
  each_kept test (x ∷ xs) h = each_if x (filter test xs) (test x) h.0 (each_kept test xs h.1)

  pub each_append : (xs ys : List X) → Each P xs → Each P ys → Each P (xs ++ ys)
  each_append [] ys h g = g
  each_append (x ∷ xs) ys h g = (h.0, each_append xs ys h.1 g)

  pub each_moved : (xs ys : List X) → IsPermutation xs ys → Each P xs → Each P ys
  each_moved xs ys moved h = recursion_from_All P ys (All-permutation P xs ys moved (All-from_recursion P xs h))

  pub each_weaker : (Q : X → Type 0) → ((x : X) → P x → Q x) → (xs : List X) → Each P xs → Each Q xs
  each_weaker Q weaker [] h = tt
  each_weaker Q weaker (x ∷ xs) h = (weaker x h.0, each_weaker Q weaker xs h.1)

-- ---- the events of one cluster

pub is_same : (a b : ℕ) → (a == b) ≡ true → a ≡ b
is_same a b e = grind (arith, nat_tests)

same_is : (a b : ℕ) → a ≡ b → (a == b) ≡ true
same_is a b e = grind (arith, nat_tests)

pub is_other : (a b : ℕ) → (a == b) ≡ false → a ≡ b → ⊥
is_other a b e s = grind (arith, nat_tests)

other_at : (a b : ℕ) (t : Bool) → (a == b) ≡ t → (a ≡ b → ⊥) → (a == b) ≡ false
other_at a b true e apart = absurd (apart (is_same a b e))
other_at a b false e apart = e

module _ (c : ℕ) where
  append_if : (x : Event) (l xs ys : List Event) (b : Bool) → l ≡ xs ++ ys → cond b (x ∷ l) l ≡ cond b (x ∷ xs) xs ++ ys
  append_if x l xs ys true e = ap (λ r. x ∷ r) e
  append_if x l xs ys false e = e

  pub events_append : (xs ys : List Event) → events_of c (xs ++ ys) ≡ events_of c xs ++ events_of c ys
  unfolding events_of
  events_append [] ys = refl
  events_append (x ∷ xs) ys = append_if x (events_of c (xs ++ ys)) (events_of c xs) (events_of c ys) (x.cluster.0 == c) (events_append xs ys)

  -- all are of it, or none is
  pub events_own : (xs : List Event) → Each (λ e. e.cluster.0 ≡ c) xs → events_of c xs ≡ xs
  unfolding events_of
  events_own [] h = refl
  events_own (x ∷ xs) h = ap (λ b. cond b (x ∷ events_of c xs) (events_of c xs)) (same_is x.cluster.0 c h.0) ∙ ap (λ r. x ∷ r) (events_own xs h.1)

  pub events_none : (xs : List Event) → Each (λ e. e.cluster.0 ≡ c → ⊥) xs → events_of c xs ≡ []
  unfolding events_of
  events_none [] h = refl
  events_none (x ∷ xs) h = ap (λ b. cond b (x ∷ events_of c xs) (events_of c xs)) (other_at x.cluster.0 c (x.cluster.0 == c) refl h.0) ∙ events_none xs h.1

  -- a fact of the cluster's events, as one of all
  module _ (P : Event → Type 0) where
    abbrev Own : Event → Type 0
    Own e = e.cluster.0 ≡ c → P e

    spread_if : (x : Event) (own xs : List Event) (b : Bool) → (x.cluster.0 == c) ≡ b → (Each P own → Each Own xs) → Each P (cond b (x ∷ own) own) → Each Own (x ∷ xs)
    spread_if x own xs true e more h = ((λ s. h.0), more h.1)
    spread_if x own xs false e more h = ((λ s. absurd (is_other x.cluster.0 c e s)), more h)

    pub spread : (xs : List Event) → Each P (events_of c xs) → Each Own xs
    unfolding events_of
    spread [] h = tt
    spread (x ∷ xs) h = spread_if x (events_of c xs) xs (x.cluster.0 == c) refl (spread xs) h

    gather_if : (x : Event) (own : List Event) (b : Bool) → (x.cluster.0 == c) ≡ b → Own x → Each P own → Each P (cond b (x ∷ own) own)
    gather_if x own true e h more = (h (is_same x.cluster.0 c e), more)
    gather_if x own false e h more = more

    pub gather : (xs : List Event) → Each Own xs → Each P (events_of c xs)
    unfolding events_of
    gather [] h = tt
    gather (x ∷ xs) h = gather_if x (events_of c xs) (x.cluster.0 == c) refl h.0 (gather xs h.1)

    pub own_moved : (xs ys : List Event) → IsPermutation xs ys → Each P (events_of c xs) → Each P (events_of c ys)
    own_moved xs ys moved h = gather ys (each_moved Own xs ys moved (spread xs h))
