-- Lanes whose ends met, and that of all units.
use Rattle.std.proofs.Common.{◌≡◌, ◌⊎◌, ℕ, ◌+◌, ◌<◌, List, [], ◌∷◌, ◌++◌, length, slice_index_or, refl, sym, ap, ◌∙◌, subst, inl, inr, arith}
use Rattle.std.proofs.lemmas.List.{append_assoc, length-append}
use mathlib.Core.List.{IsPrefix}
use Rattle.dash_msg.specs.declared.classes.Class.{Class}
use Rattle.dash_msg.specs.declared.classes.Class.TheVariants.{Request, Reply}
use Rattle.dash_msg.specs.declared.parcel.Parcel.{Parcel}
use Rattle.mesh_lanes.specs.View.{OutletView, InletView}
use Rattle.dash_model.proofs.LawsOffered.{last_or_below}
use Rattle.cluster_unit.specs.Ends.{place}
use Rattle.cluster_unit.specs.Meeting.{EndsMet}
use Rattle.round_run.specs.Units.{UnitView, OnlyMet, IsShown, Each, IsMet, HaveMet}

-- what is known is some, or all that there is
some_or_none : (n : ℕ) (known spool : List Parcel) → n ≡ length known + length spool → (0 < n → 0 < length known) → (known ++ spool ≡ []) ⊎ (0 < length known)
some_or_none n [] [] count some = inl refl
some_or_none n [] (q ∷ qs) count some = absurd (let s = some (omega arith) in omega arith)
some_or_none n (p ∷ ps) spool count some = inr (omega arith)

pub ends_shown : (n : ℕ) (o : OutletView) (i : InletView) → EndsMet n o i → IsShown o i
ends_shown n o i e = record { rest = i.known ++ o.spool; begins = sym (append_assoc i.received i.known o.spool) ∙ e.met; known = some_or_none n i.known o.spool e.count_is e.shown }

more_known : (xs ys : List Parcel) → IsPrefix xs ys → 0 < length xs → 0 < length ys
more_known xs ys p some = let a = length-append xs p.0 in let b = ap (λ (l : List Parcel). length l) p.1 in omega arith

known_stays : (rest xs ys : List Parcel) → IsPrefix xs ys → (rest ≡ []) ⊎ (0 < length xs) → (rest ≡ []) ⊎ (0 < length ys)
known_stays rest xs ys p (inl none) = inl none
known_stays rest xs ys p (inr some) = inr (more_known xs ys p some)

-- and stays so where the ends sent and received no more, and nothing known is forgotten
pub shown_stays : (o p : OutletView) (i j : InletView) → p.sent ≡ o.sent → j.received ≡ i.received → IsPrefix i.known j.known → IsShown o i → IsShown p j
shown_stays o p i j sent received known s = record { rest = s.rest; begins = ap (λ l. l ++ s.rest) received ∙ s.begins ∙ sym sent; known = known_stays s.rest i.known j.known known s.known }

module _ {U : Type 0} (view : U → UnitView) where
  pub met_stays : (us vs : List U) (a b : ℕ) → Each view OnlyMet us vs → a < length us → b < length us → HaveMet view us a b → HaveMet view vs a b
  met_stays us vs a b f low below was k d e x y =
      let from = f.each a d low in
      let to = f.each b e below in
      shown_stays _ _ _ _ (from.sent (place b k) x) (to.received (place a k) y) (to.known (place a k) y) (was k d e x y)

  -- one lane
  lane_met : (us : List U) (a b n : ℕ) (k : Class) → IsMet view k n a b us → (d e : U) (x : OutletView) (y : InletView)
      → IsShown (slice_index_or (view (slice_index_or us a d)).core.outlets (place b k) x) (slice_index_or (view (slice_index_or us b e)).core.inlets (place a k) y)
  lane_met us a b n k met d e x y = ends_shown n _ _ (met d e x y)

  -- the lanes of both classes, that of requests before that of replies
  pub pair_met : (us vs ws : List U) (a b n m : ℕ) → a < length us → b < length us → Each view OnlyMet us vs → IsMet view Request n a b vs → Each view OnlyMet vs ws → IsMet view Reply m a b ws → HaveMet view ws a b
  pair_met us vs ws a b n m low below first requests later replies Request d e x y =
      let from = later.each a d (subst (λ l. a < l) (sym first.count) low) in
      let to = later.each b e (subst (λ l. b < l) (sym first.count) below) in
      shown_stays _ _ _ _ (from.sent (place b Request) x) (to.received (place a Request) y) (to.known (place a Request) y) (lane_met vs a b n Request requests d e x y)
  pair_met us vs ws a b n m low below first requests later replies Reply d e x y = lane_met ws a b m Reply replies d e x y

  -- one more unit, of those that unit a met
  pub row_more : (us vs : List U) (a i : ℕ) → a < length us → i < length us → Each view OnlyMet us vs → ((b : ℕ) → b < i → HaveMet view us a b) → HaveMet view vs a i → (b : ℕ) → b < i + 1 → HaveMet view vs a b
  row_more us vs a i low below f before here b less = by_last (last_or_below b i (omega (arith, less)))
    where
      by_last : (b ≡ i) ⊎ (b < i) → HaveMet view vs a b
      by_last (inl e) = subst (HaveMet view vs a) (sym e) here
      by_last (inr l) = met_stays us vs a b f low (omega arith) (before b l)

  -- one more unit, of those that met all
  pub all_more : (us vs : List U) (i : ℕ) → i < length us → Each view OnlyMet us vs → ((a b : ℕ) → a < i → b < length us → HaveMet view us a b) → ((b : ℕ) → b < length vs → HaveMet view vs i b) → (a b : ℕ) → a < i + 1 → b < length vs → HaveMet view vs a b
  all_more us vs i low f before here a b less below = by_last (last_or_below a i (omega (arith, less)))
    where
      by_last : (a ≡ i) ⊎ (a < i) → HaveMet view vs a b
      by_last (inl e) = subst (λ n. HaveMet view vs n b) (sym e) (here b below)
      by_last (inr l) = let under : b < length us = subst (λ n. b < n) f.count below in met_stays us vs a b f (omega arith) under (before a b l under)
