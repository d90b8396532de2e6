-- Lanes that are made one after another.
use Rattle.std.proofs.Common.{◌≡◌, ◌≢◌, ℕ, ◌+◌, ◌*◌, ◌<◌, ◌≤◌, ◌==◌, List, [], ◌∷◌, ◌++◌, length, slice_index_or, slice_set, refl, sym, ap, ◌∙◌, subst, arith, length-append}
use Rattle.std.proofs.Math.Seq.{get_or-append_seam}
use Rattle.std.proofs.lemmas.List.{get_or_append_left, get_or-set_same, get_or-set_other, get_or_default}
use Rattle.dash_msg.specs.declared.classes.Class.{Class}
use Rattle.dash_msg.specs.declared.classes.Class.TheVariants.{Request, Reply}
use Rattle.mesh_lanes.specs.View.{OutletView, InletView}
use Rattle.cluster_unit.specs.Ends.{place}
use Rattle.cluster_unit.specs.Fresh.{AreUnsent, AreUntaken, AreMet, AddsLane, AddsSource, AreLanes}
use Rattle.cluster_unit.proofs.Sending.{at_or_not}

-- one element more
added : {X : Type 0} (xs : List X) (y : X) → length (xs ++ y ∷ []) ≡ length xs + 1
added xs y = length-append xs (y ∷ [])

pub last_of : {X : Type 0} (xs : List X) (y : X) (n : ℕ) (d : X) → n ≡ length xs → slice_index_or (xs ++ y ∷ []) n d ≡ y
last_of xs y n d is = subst (λ m. slice_index_or (xs ++ y ∷ []) m d ≡ y) (sym is) (get_or-append_seam xs y [] d)

below_or_last : {X : Type 0} (P : X → Type 0) (xs : List X) (y : X) (n j : ℕ) (d : X) → length xs ≡ n → j < n + 1 → (j < n → P (slice_index_or xs j d)) → P y → P (slice_index_or (xs ++ y ∷ []) j d)
below_or_last P xs y n j d count low before last = at_or_not (λ i. i < n + 1 → P (slice_index_or (xs ++ y ∷ []) i d)) n j (n == j) refl
    (λ _. subst P (sym (last_of xs y n d (sym count))) last)
    (λ far _. let below : j < n = (let f : n ≢ j = far in grind arith) in subst P (sym (get_or_append_left xs (y ∷ []) d j (subst (λ m. j < m) (sym count) below))) (before below))
    low

-- ends by which nothing was sent, and one more
unsent_more : (n : ℕ) (os ns : List OutletView) (is js : List InletView) → AreUnsent n os → AddsLane os ns is js → AreUnsent (n + 1) ns
unsent_more n os ns is js unsent adds = rw adds.sends (record {
  count = added os adds.outlet ∙ ap (λ m. m + 1) unsent.count;
  unsent = λ j x low. below_or_last (λ (o : OutletView). o.sent ≡ []) os adds.outlet n j x unsent.count low (unsent.unsent j x) adds.unsent;
})

untaken_more : (n : ℕ) (os ns : List OutletView) (is js : List InletView) → AreUntaken n is → AddsLane os ns is js → AreUntaken (n + 1) js
untaken_more n os ns is js untaken adds = rw adds.receives (record {
  count = added is adds.inlet ∙ ap (λ m. m + 1) untaken.count;
  untaken = λ j x low. below_or_last (λ (i : InletView). i.received ≡ []) is adds.inlet n j x untaken.count low (untaken.untaken j x) adds.untaken;
})

-- the ends that were there stay, and the new ones are of one lane
sends_same : (os ns : List OutletView) (is js : List InletView) (j : ℕ) (x : OutletView) → AddsLane os ns is js → j < length os → slice_index_or ns j x ≡ slice_index_or os j x
sends_same os ns is js j x adds low = ap (λ xs. slice_index_or xs j x) adds.sends ∙ get_or_append_left os (adds.outlet ∷ []) x j low

receives_same : (os ns : List OutletView) (is js : List InletView) (j : ℕ) (y : InletView) → AddsLane os ns is js → j < length is → slice_index_or js j y ≡ slice_index_or is j y
receives_same os ns is js j y adds low = ap (λ xs. slice_index_or xs j y) adds.receives ∙ get_or_append_left is (adds.inlet ∷ []) y j low

new_lane : (os ns : List OutletView) (is js : List InletView) (n m : ℕ) (x : OutletView) (y : InletView) → AddsLane os ns is js → n ≡ length os → m ≡ length is → (slice_index_or ns n x).lane ≡ (slice_index_or js m y).lane
new_lane os ns is js n m x y adds at into =
    ap (λ (o : OutletView). o.lane) (ap (λ xs. slice_index_or xs n x) adds.sends ∙ last_of os adds.outlet n x at)
    ∙ adds.lane
    ∙ sym (ap (λ (i : InletView). i.lane) (ap (λ xs. slice_index_or xs m y) adds.receives ∙ last_of is adds.inlet m y into))

-- two lanes more, from cluster a to cluster b
source_added : (a b : ℕ) (os ms ns : List OutletView) (is js ks : List InletView) → AreUnsent (2 * b) os → AreUntaken (2 * a) is → AddsLane os ms is js → AddsLane ms ns js ks → AddsSource a b ns is ks
source_added a b os ms ns is js ks unsent untaken first second =
    let ms_count = (unsent_more (2 * b) os ms is js unsent first).count in
    let js_untaken = untaken_more (2 * a) os ms is js untaken first in
    record {
      untaken = subst (λ n. AreUntaken n ks) (let e : 2 * a + 1 + 1 ≡ 2 * (a + 1) = grind arith in e) (untaken_more (2 * a + 1) ms ns js ks js_untaken second);
      kept = λ j y low.
          receives_same ms ns js ks j y second (let c = js_untaken.count in grind arith)
          ∙ receives_same os ms is js j y first (let c = untaken.count in grind arith);
      met = met;
    }
  where
    met : AreMet a b ns ks
    met Request x y =
        let ms_count = (unsent_more (2 * b) os ms is js unsent first).count in
        let js_count = (untaken_more (2 * a) os ms is js untaken first).count in
        let out : place b Request < length ms = grind arith in
        let into : place a Request < length js = grind arith in
        ap (λ (o : OutletView). o.lane) (sends_same ms ns js ks (place b Request) x second out)
        ∙ new_lane os ms is js (place b Request) (place a Request) x y first (let c = unsent.count in grind arith) (let c = untaken.count in grind arith)
        ∙ sym (ap (λ (i : InletView). i.lane) (receives_same ms ns js ks (place a Request) y second into))
    met Reply x y =
        let ms_count = (unsent_more (2 * b) os ms is js unsent first).count in
        let js_count = (untaken_more (2 * a) os ms is js untaken first).count in
        new_lane ms ns js ks (place b Reply) (place a Reply) x y second (grind arith) (grind arith)

-- a place among the ends of the first clusters
place_low : (a n : ℕ) (k : Class) → a < n → place a k < 2 * n
place_low a n Request low = grind arith
place_low a n Reply low = grind arith

-- what holds of a row holds still where the source sends by one lane more to others
still_added : (a b n : ℕ) (os ns : List OutletView) (is js : List InletView) (old new : List InletView) → 2 * n ≤ length os → b < n → AddsLane os ns is js → AddsSource a b os old new → AddsSource a b ns old new
still_added a b n os ns is js old new count low adds was = record {
  untaken = was.untaken;
  kept = was.kept;
  met = λ k x y. ap (λ (o : OutletView). o.lane) (sends_same os ns is js (place b k) x adds (let p = place_low b n k low in grind arith)) ∙ was.met k x y;
}

-- the lanes from cluster a to the first i clusters were added: the rows so far, and those as they were
pub record SourceSoFar {V : Type 0} (inlets : V → List InletView) (a i : ℕ) (outlets : List OutletView) (old new : List V) : Type 0 where
  pub unsent : AreUnsent (2 * i) outlets
  pub done : (b : ℕ) (e : V) → b < i → AddsSource a b outlets (inlets (slice_index_or old b e)) (inlets (slice_index_or new b e))
  pub left : (b : ℕ) (e : V) → i ≤ b → slice_index_or new b e ≡ slice_index_or old b e

pub source_begun : {V : Type 0} (g : V → List InletView) (a : ℕ) (os : List OutletView) (old : List V) → os ≡ [] → SourceSoFar g a 0 os old old
source_begun g a os old none = rw none (record {
  unsent = record { count = refl; unsent = λ j x low. absurd (grind arith) };
  done = λ b e low. absurd (grind arith);
  left = λ b e from. refl;
})

pub source_more : {V : Type 0} (g : V → List InletView) (a i : ℕ) (os ms ns : List OutletView) (old new : List V) (row mid now : V) → length new ≡ length old → i < length old
    → ((c : ℕ) (d : V) → c < length old → AreUntaken (2 * a) (g (slice_index_or old c d)))
    → SourceSoFar g a i os old new → row ≡ slice_index_or new i row → AddsLane os ms (g row) (g mid) → AddsLane ms ns (g mid) (g now) → SourceSoFar g a (i + 1) ns old (slice_set new i now)
source_more g a i os ms ns old new row mid now count low untaken so row_is first second = record {
  unsent = subst (λ n. AreUnsent n ns) (let e : 2 * i + 1 + 1 ≡ 2 * (i + 1) = grind arith in e) (unsent_more (2 * i + 1) ms ns (g mid) (g now) (unsent_more (2 * i) os ms (g row) (g mid) so.unsent first) second);
  done = λ b e under. at_or_not (λ n. n < i + 1 → AddsSource a n ns (g (slice_index_or old n e)) (g (slice_index_or (slice_set new i now) n e))) i b (i == b) refl
      (λ _. subst (λ r. AddsSource a i ns (g (slice_index_or old i e)) (g r)) (sym (get_or-set_same new i now e below))
      (subst (λ r. AddsSource a i ns (g r) (g now)) (row_is ∙ get_or_default new i row e below ∙ so.left i e (grind arith))
      (source_added a i os ms ns (g row) (g mid) (g now) so.unsent
      (subst (λ r. AreUntaken (2 * a) (g r)) (sym (row_is ∙ get_or_default new i row e below ∙ so.left i e (grind arith))) (untaken i e low))
      first second)))
      (λ far u. let before : b < i = (let f : i ≢ b = far in grind arith) in
      subst (λ r. AddsSource a b ns (g (slice_index_or old b e)) (g r)) (sym (get_or-set_other new i b now e (λ s. far (sym s))))
      (still_added a b i ms ns (g mid) (g now) _ _ (let c = (unsent_more (2 * i) os ms (g row) (g mid) so.unsent first).count in grind arith) before second
      (still_added a b i os ms (g row) (g mid) _ _ (let c = so.unsent.count in grind arith) before first (so.done b e before))))
      under;
  left = λ b e from. get_or-set_other new i b now e (λ s. grind arith) ∙ so.left b e (grind arith);
}
  where
    below : i < length new
    below = subst (λ n. i < n) (sym count) low

-- the lanes from one cluster more
pub lanes_begun : {O V : Type 0} (f : O → List OutletView) (g : V → List InletView) (n : ℕ) (sending : List O) (receiving : List V) → sending ≡ [] → length receiving ≡ n → ((b : ℕ) (e : V) → b < n → AreUntaken 0 (g (slice_index_or receiving b e)))
    → AreLanes f g 0 n sending receiving
lanes_begun f g n sending receiving none count untaken = rw none (record {
  senders = refl;
  receivers = count;
  unsent = λ a d low. absurd (grind arith);
  untaken = untaken;
  met = λ a b d e low under. absurd (grind arith);
})

pub lanes_more : {O V : Type 0} (f : O → List OutletView) (g : V → List InletView) (m n : ℕ) (sending more : List O) (o : O) (receiving now : List V) → AreLanes f g m n sending receiving
    → more ≡ sending ++ o ∷ [] → length now ≡ length receiving → AreUnsent (2 * length receiving) (f o)
    → ((b : ℕ) (e : V) → b < length receiving → AddsSource m b (f o) (g (slice_index_or receiving b e)) (g (slice_index_or now b e))) → AreLanes f g (m + 1) n more now
lanes_more f g m n sending more o receiving now lanes more_is count unsent adds = rw more_is (record {
  senders = added sending o ∙ ap (λ i. i + 1) lanes.senders;
  receivers = count ∙ lanes.receivers;
  unsent = λ a d low. below_or_last (λ x. AreUnsent (2 * n) (f x)) sending o m a d lanes.senders low (lanes.unsent a d) (subst (λ i. AreUnsent (2 * i) (f o)) lanes.receivers unsent);
  untaken = λ b e low. (row b e low).untaken;
  met = λ a b d e low under. at_or_not (λ i. i < m + 1 → AreMet i b (f (slice_index_or (sending ++ o ∷ []) i d)) (g (slice_index_or now b e))) m a (m == a) refl
      (λ _ k x y. subst (λ s. (slice_index_or (f s) (place b k) x).lane ≡ (slice_index_or (g (slice_index_or now b e)) (place m k) y).lane) (sym (last_of sending o m d (sym lanes.senders))) ((row b e under).met k x y))
      (λ far u k x y. let before : a < m = (let h : m ≢ a = far in grind arith) in
      ap (λ s. (slice_index_or (f s) (place b k) x).lane) (get_or_append_left sending (o ∷ []) d a (subst (λ i. a < i) (sym lanes.senders) before))
      ∙ lanes.met a b d e before under k x y
      ∙ sym (ap (λ (i : InletView). i.lane) ((row b e under).kept (place a k) y (place_low a m k before))))
      low;
})
  where
    row : (b : ℕ) (e : _) → b < n → AddsSource m b (f o) (g (slice_index_or receiving b e)) (g (slice_index_or now b e))
    row b e low = adds b e (subst (λ i. b < i) (sym lanes.receivers) low)
