-- Lists that the events of a log make one after another, each at most one element: positions there, and positions in the log.
use Rattle.std.proofs.Common.{Bool, true, false, ◌≡◌, ◌⊎◌, inl, inr, ◌<◌, ◌≤◌, ℕ, zero, suc, ◌+◌, List, [], ◌∷◌, ◌++◌, length, take, Option, Some, None, refl, sym, ◌∙◌, ap, subst, arith}
use Rattle.std.specs.Prelude.{if◌then◌else◌, slice_get, flat_map, option_map}
use Rattle.std.proofs.lemmas.List.{append-nil, append_assoc, length-append, take_all}
use Rattle.std.proofs.lemmas.Option.{slice_get_within}
use Rattle.dash_event.specs.declared.event.Event.{Event}
use Rattle.dash_event.specs.declared.event.Kind.{Kind}
use Rattle.dash_model.specs.Log.{IsEventAt}

-- an element of two lists joined is one of either
abbrev pub InEither : {A : Type 0} → List A → List A → ℕ → A → Type 0
InEither xs ys p x = (slice_get xs p ≡ Some x) ⊎ ((q : ℕ) × (p ≡ length xs + q) × (slice_get ys q ≡ Some x))

one_further : {A : Type 0} (y : A) (xs ys : List A) (p : ℕ) (x : A) → InEither xs ys p x → InEither (y ∷ xs) ys (suc p) x
one_further y xs ys p x (inl e) = inl e
one_further y xs ys p x (inr s) = let e : p ≡ length xs + s.0 = s.1 in inr (s.0, omega arith, s.2)

pub in_either : {A : Type 0} (xs ys : List A) (p : ℕ) (x : A) → slice_get (xs ++ ys) p ≡ Some x → InEither xs ys p x
in_either [] ys p x e = inr (p, omega arith, e)
in_either (y ∷ xs) ys zero x e = inl e
in_either (y ∷ xs) ys (suc p) x e = one_further y xs ys p x (in_either xs ys p x e)

pub in_left : {A : Type 0} (xs ys : List A) (p : ℕ) (x : A) → slice_get xs p ≡ Some x → slice_get (xs ++ ys) p ≡ Some x
in_left [] ys p x e = absurd cc
in_left (y ∷ xs) ys zero x e = e
in_left (y ∷ xs) ys (suc p) x e = in_left xs ys p x e

pub at_end : {A : Type 0} (xs : List A) (x : A) → slice_get (xs ++ x ∷ []) (length xs) ≡ Some x
at_end [] x = refl
at_end (y ∷ xs) x = at_end xs x

-- at most one element
abbrev pub IsSmall : {A : Type 0} → List A → Type 0
IsSmall [] = Unit {0}
IsSmall (x ∷ []) = Unit {0}
IsSmall (x ∷ y ∷ xs) = ⊥

pub small_if : {A : Type 0} (b : Bool) (x : A) → IsSmall (if b then x ∷ [] else [])
small_if true x = tt
small_if false x = tt

only_one : {A : Type 0} (xs : List A) (q : ℕ) (x : A) → IsSmall xs → slice_get xs q ≡ Some x → (xs ≡ x ∷ []) × (q ≡ 0)
only_one [] q x small e = absurd cc
only_one (y ∷ []) zero x small e = ((let same : y ≡ x = cc in ap (λ z. z ∷ []) same), refl)
only_one (y ∷ []) (suc q) x small e = absurd cc
only_one (y ∷ z ∷ xs) q x small e = elim small [ ]

-- what the event at a position makes, if there is one
abbrev pub made : {A : Type 0} → (Kind → List A) → Option Event → List A
made g None = []
made g (Some e) = g e.kind

-- what the first events make
abbrev pub upto : {A : Type 0} → (Kind → List A) → List Event → ℕ → List A
upto g log n = flat_map (λ e. g e.kind) (take n log)

pub upto_more : {A : Type 0} (g : Kind → List A) (log : List Event) (n : ℕ) → upto g log (suc n) ≡ upto g log n ++ made g (slice_get log n)
upto_more g [] zero = refl
upto_more g [] (suc n) = refl
upto_more g (e ∷ es) zero = append-nil (g e.kind)
upto_more g (e ∷ es) (suc n) = ap (λ x. g e.kind ++ x) (upto_more g es n) ∙ sym (append_assoc (g e.kind) (upto g es n) (made g (slice_get es n)))

pub made_by : {A : Type 0} (g : Kind → List A) (o : Option Event) (k : Kind) → option_map (λ e. e.kind) o ≡ Some k → made g o ≡ g k
made_by g None k is = absurd cc
made_by g (Some e) k is = let same : e.kind ≡ k = cc in ap g same

made_small : {A : Type 0} (g : Kind → List A) → ((k : Kind) → IsSmall (g k)) → (o : Option Event) → IsSmall (made g o)
made_small g small None = tt
made_small g small (Some e) = small e.kind

kind_made : {A : Type 0} (g : Kind → List A) (o : Option Event) (x : A) → made g o ≡ x ∷ [] → (k : Kind) × (option_map (λ e. e.kind) o ≡ Some k) × (g k ≡ x ∷ [])
kind_made g None x is = absurd cc
kind_made g (Some e) x is = (e.kind, refl, is)

below_or_last : (i n : ℕ) → i < suc n → (i < n) ⊎ (i ≡ n)
below_or_last i n before = grind arith

-- which event an element comes from
pub record Origin {A : Type 0} (g : Kind → List A) (log : List Event) (n p : ℕ) (x : A) : Type 0 where
  pub at : ℕ
  pub kind : Kind
  pub is_at : IsEventAt log at kind
  pub makes : g kind ≡ x ∷ []
  pub before : at < n
  pub place : p ≡ length (upto g log at)

later : {A : Type 0} (g : Kind → List A) (log : List Event) (n p : ℕ) (x : A) → Origin g log n p x → Origin g log (suc n) p x
later g log n p x o = record { at = o.at; kind = o.kind; is_at = o.is_at; makes = o.makes; before = (let b = o.before in omega arith); place = o.place }

module _ {A : Type 0} (g : Kind → List A) (small : (k : Kind) → IsSmall (g k)) (log : List Event) where
  at_last : (n p : ℕ) (x : A) → (q : ℕ) × (p ≡ length (upto g log n) + q) × (slice_get (made g (slice_get log n)) q ≡ Some x) → Origin g log (suc n) p x
  at_last n p x s =
      let one = only_one (made g (slice_get log n)) s.0 x (made_small g small (slice_get log n)) s.2 in
      let k = kind_made g (slice_get log n) x one.0 in
      let place : p ≡ length (upto g log n) + s.0 = s.1 in
      let zero_more : s.0 ≡ 0 = one.1 in
      record { at = n; kind = k.0; is_at = k.1; makes = k.2; before = omega arith; place = omega arith }

  pub from_place : (n p : ℕ) (x : A) → slice_get (upto g log n) p ≡ Some x → Origin g log n p x
  from_place zero p x e = absurd cc
  from_place (suc n) p x e = from_either n p x (in_either (upto g log n) (made g (slice_get log n)) p x (ap (λ xs. slice_get xs p) (sym (upto_more g log n)) ∙ e)) (from_place n p x)
    where
      from_either : (n p : ℕ) (x : A) → InEither (upto g log n) (made g (slice_get log n)) p x → (slice_get (upto g log n) p ≡ Some x → Origin g log n p x)
          → Origin g log (suc n) p x
      from_either n p x (inl e) shorter = later g log n p x (shorter e)
      from_either n p x (inr s) shorter = at_last n p x s

  pub at_place : (i n : ℕ) (k : Kind) (x : A) → IsEventAt log i k → g k ≡ x ∷ [] → i < n → slice_get (upto g log n) (length (upto g log i)) ≡ Some x
  at_place i zero k x at makes before = absurd (omega arith)
  at_place i (suc n) k x at makes before = ap (λ xs. slice_get xs (length (upto g log i))) (upto_more g log n) ∙ at_either (below_or_last i n before) (at_place i n k x at makes)
    where
      at_either : (i < n) ⊎ (i ≡ n) → (i < n → slice_get (upto g log n) (length (upto g log i)) ≡ Some x)
          → slice_get (upto g log n ++ made g (slice_get log n)) (length (upto g log i)) ≡ Some x
      at_either (inl b) shorter = in_left (upto g log n) (made g (slice_get log n)) (length (upto g log i)) x (shorter b)
      at_either (inr e) shorter =
          subst (λ m. slice_get (upto g log m ++ made g (slice_get log m)) (length (upto g log i)) ≡ Some x) e
          (ap (λ xs. slice_get (upto g log i ++ xs) (length (upto g log i))) (made_by g (slice_get log i) k at ∙ makes) ∙ at_end (upto g log i) x)

  pub place_grows : (i j : ℕ) → i ≤ j → length (upto g log i) ≤ length (upto g log j)
  place_grows i zero le = let e : i ≡ 0 = omega arith in subst (λ m. length (upto g log m) ≤ length (upto g log 0)) (sym e) (omega arith)
  place_grows i (suc j) le = grow_by (below_or_last i (suc j) (omega arith)) (place_grows i j)
    where
      more : length (upto g log j) ≤ length (upto g log (suc j))
      more = let e : length (upto g log (suc j)) ≡ length (upto g log j) + length (made g (slice_get log j)) = ap length (upto_more g log j) ∙ length-append (upto g log j) (made g (slice_get log j)) in omega arith

      grow_by : (i < suc j) ⊎ (i ≡ suc j) → (i ≤ j → length (upto g log i) ≤ length (upto g log j)) → length (upto g log i) ≤ length (upto g log (suc j))
      grow_by (inl b) shorter = let s = shorter (omega arith) in let m = more in omega arith
      grow_by (inr e) shorter = subst (λ m. length (upto g log i) ≤ length (upto g log m)) e (omega arith)

  -- the order of places is that of the events
  pub place_before : (i j : ℕ) → length (upto g log i) < length (upto g log j) → i < j
  place_before i j before = place_by (grind arith)
    where
      place_by : (i < j) ⊎ (j ≤ i) → i < j
      place_by (inl b) = b
      place_by (inr le) = absurd (let p = place_grows j i le in omega arith)

  pub before_place : (i j : ℕ) (k : Kind) (x : A) → IsEventAt log i k → g k ≡ x ∷ [] → i < j → length (upto g log i) < length (upto g log j)
  before_place i j k x at makes before = slice_get_within (upto g log j) (length (upto g log i)) x (at_place i j k x at makes before)

-- all events
pub upto_all : {A : Type 0} (g : Kind → List A) (log : List Event) → upto g log (length log) ≡ flat_map (λ e. g e.kind) log
upto_all g log = ap (flat_map (λ e. g e.kind)) (take_all (length log) log (omega arith))
