-- Units that are made one after another.
use Rattle.std.proofs.Common.{◌≡◌, ◌≢◌, ℕ, ◌+◌, ◌<◌, ◌==◌, List, [], ◌∷◌, ◌++◌, length, drop, slice_index_or, refl, sym, ap, ◌∙◌, subst, arith, length-drop}
use Rattle.std.proofs.lemmas.List.{get_or-drop, get_or_default, get_or_append_left, drop_more}
use Rattle.std.specs.List.{remove}
use Rattle.dash_model.specs.Config.{Config}
use Rattle.mesh_lanes.specs.View.{OutletView, InletView}
use Rattle.cluster_unit.specs.View.{CoreView}
use Rattle.cluster_unit.specs.Ends.{place}
use Rattle.cluster_unit.specs.Fresh.{AreLanes}
use Rattle.cluster_unit.specs.Wiring.{AreOf, AreWired, AreUnused}
use Rattle.cluster_unit.proofs.Sending.{at_or_not}
use Rattle.cluster_unit.proofs.FreshLanes.{last_of}

-- the core of cluster c at the start of a run, with its ends of the lanes
pub record IsStarted {O V : Type 0} (f : O → List OutletView) (g : V → List InletView) (w : Config) (sending : List O) (receiving : List V) (c : ℕ) (a : CoreView) : Type 0 where
  pub config : a.config ≡ w
  pub cluster : a.cluster ≡ c
  pub log : a.log ≡ []
  pub outlets : (d : O) → a.outlets ≡ f (slice_index_or sending c d)
  pub inlets : (e : V) → a.inlets ≡ g (slice_index_or receiving c e)

-- the first of what is left of a list is taken
pub taken_some : {X : Type 0} (xs rest : List X) (i : ℕ) → rest ≡ drop i xs → i < length xs → 0 < length rest
taken_some xs rest i is low = let n = ap length is in let m = length-drop i xs in grind arith

pub taken_is : {X : Type 0} (xs rest : List X) (i : ℕ) (x : X) → rest ≡ drop i xs → x ≡ slice_index_or rest 0 x → slice_index_or xs i x ≡ x
taken_is xs rest i x is first = sym (first ∙ ap (λ ys. slice_index_or ys 0 x) is ∙ get_or-drop i xs 0 x ∙ ap (λ n. slice_index_or xs n x) (let e : i + 0 ≡ i = grind arith in e))

pub taken_at : {X : Type 0} (xs rest : List X) (i : ℕ) (x d : X) → rest ≡ drop i xs → i < length xs → x ≡ slice_index_or rest 0 x → x ≡ slice_index_or xs i d
taken_at xs rest i x d is low first = sym (taken_is xs rest i x is first) ∙ get_or_default xs i x d low

pub taken_more : {X : Type 0} (xs rest now : List X) (i : ℕ) → rest ≡ drop i xs → i < length xs → now ≡ remove rest 0 → now ≡ drop (i + 1) xs
taken_more xs [] now i is low now_is = let none = taken_some xs [] i is low in absurd (grind arith)
taken_more xs (y ∷ ys) now i is low now_is = let more = drop_more xs i y low in now_is ∙ cc

-- what holds of each unit so far, and of one more
pub each_more : {U : Type 0} (us more : List U) (u : U) (i : ℕ) (P : ℕ → U → Type 0) → length us ≡ i → more ≡ us ++ u ∷ [] → ((c : ℕ) (d : U) → c < i → P c (slice_index_or us c d)) → P i u → (c : ℕ) (d : U) → c < i + 1 → P c (slice_index_or more c d)
each_more us more u i P count more_is before here c d low =
    subst (λ ys. P c (slice_index_or ys c d)) (sym more_is)
    (at_or_not (λ n. n < i + 1 → P n (slice_index_or (us ++ u ∷ []) n d)) i c (i == c) refl
    (λ _. subst (P i) (sym (last_of us u i d (sym count))) here)
    (λ far _. let below : c < i = (let f : i ≢ c = far in grind arith) in subst (P c) (sym (get_or_append_left us (u ∷ []) d c (subst (λ n. c < n) (sym count) below))) (before c d below))
    low)

an_element : {X : Type 0} (xs : List X) (i : ℕ) → i < length xs → X
an_element [] i low = absurd (grind arith)
an_element (x ∷ xs) i low = x

-- what is said of all units of a machine
module _ {U O V : Type 0} (core : U → CoreView) (f : O → List OutletView) (g : V → List InletView) (w : Config) (sending : List O) (receiving : List V) (us : List U) where
  abbrev pub AreStarted : ℕ → Type 0
  AreStarted n = (c : ℕ) (d : U) → c < n → IsStarted f g w sending receiving c (core (slice_index_or us c d))

  pub started_of : (n : ℕ) → length us ≡ w.top.clusters → length us ≡ n → AreStarted n → AreOf core w us
  started_of n count is started = record {
    count = count;
    config = λ c d low. (started c d (subst (λ m. c < m) is low)).config;
    cluster = λ c d low. (started c d (subst (λ m. c < m) is low)).cluster;
  }

  pub started_unused : (n : ℕ) → length us ≡ n → AreStarted n → AreUnused core us
  started_unused n is started c d low = (started c d (subst (λ m. c < m) is low)).log

  pub started_wired : (n : ℕ) → length us ≡ n → AreLanes f g n n sending receiving → AreStarted n → AreWired core us
  started_wired n is lanes started a b k d e low under x y =
      let from = started a d (subst (λ m. a < m) is low) in
      let to = started b e (subst (λ m. b < m) is under) in
      let o = an_element sending a (subst (λ m. a < m) (is ∙ sym lanes.senders) low) in
      let v = an_element receiving b (subst (λ m. b < m) (is ∙ sym lanes.receivers) under) in
      subst (λ i. (slice_index_or (core (slice_index_or us a d)).outlets (place i k) x).lane ≡ (slice_index_or (core (slice_index_or us b e)).inlets (place (core (slice_index_or us a d)).cluster k) y).lane) (sym to.cluster)
      (subst (λ i. (slice_index_or (core (slice_index_or us a d)).outlets (place b k) x).lane ≡ (slice_index_or (core (slice_index_or us b e)).inlets (place i k) y).lane) (sym from.cluster)
      (subst (λ os. (slice_index_or os (place b k) x).lane ≡ (slice_index_or (core (slice_index_or us b e)).inlets (place a k) y).lane) (sym (from.outlets o))
      (subst (λ js. (slice_index_or (f (slice_index_or sending a o)) (place b k) x).lane ≡ (slice_index_or js (place a k) y).lane) (sym (to.inlets v))
      (lanes.met a b o v (subst (λ m. a < m) is low) (subst (λ m. b < m) is under) k x y))))
