-- Messages that are sent one after another, each by its lane.
use Rattle.std.proofs.Common.{◌≡◌, ◌≢◌, ℕ, ◌+◌, ◌-◌, ◌*◌, ◌<◌, ◌≤◌, ◌==◌, ◌&&◌, Bool, true, false, cond, List, [], ◌∷◌, ◌++◌, length, slice_index_or, slice_set, refl, sym, ap, ◌∙◌, subst, arith}
use Rattle.std.proofs.lemmas.Bool.Decides.{nat_tests}
use Rattle.std.proofs.lemmas.List.{append_assoc, append-nil, length-append, length-set, get_or-set_same, get_or-set_other}
use Rattle.dash_msg.specs.Classes.{class_of}
use Rattle.dash_msg.specs.declared.classes.Class.{Class}
use Rattle.dash_msg.specs.declared.classes.Class.TheVariants.{Request, Reply}
use Rattle.dash_msg.specs.declared.parcel.Parcel.{Parcel}
use Rattle.dash_msg.specs.declared.parcel.Sent.{Sent}
use Rattle.mesh_lanes.specs.View.{OutletView, with_sent}
use Rattle.dash_model.specs.Net.{same_class}
use Rattle.cluster_unit.specs.Ends.{place, goes_to, parcels_to, Sends}
use Rattle.cluster_unit.proofs.Lanes.{Apart, IsOne, Differ, apart, equal, same_itself}

-- nothing is sent
pub sends_none : (n stamp : ℕ) (old : List OutletView) → Sends n stamp [] old old
unfolding parcels_to
sends_none n stamp old = record {
  count = refl;
  lanes = λ j x. refl;
  sent = λ d k x low. sym (append-nil (slice_index_or old (place d k) x).sent);
  spare = λ j x. grind arith;
}

parcels_to-append : (stamp d : ℕ) (k : Class) (xs ys : List Sent) → parcels_to stamp d k (xs ++ ys) ≡ parcels_to stamp d k xs ++ parcels_to stamp d k ys
unfolding parcels_to
parcels_to-append stamp d k [] ys = refl
parcels_to-append stamp d k (s ∷ ss) ys = added (goes_to d k s) (record { msg = s.msg; stamp = stamp }) (parcels_to stamp d k ss) (parcels_to stamp d k ys) (parcels_to stamp d k (ss ++ ys)) (parcels_to-append stamp d k ss ys)
  where
    added : (i : Bool) (p : Parcel) (xs ys zs : List Parcel) → zs ≡ xs ++ ys → cond i (p ∷ zs) zs ≡ cond i (p ∷ xs) xs ++ ys
    added true p xs ys zs e = ap (λ ps. p ∷ ps) e
    added false p xs ys zs e = e

-- these, and then those
pub sends_more : (n stamp : ℕ) (xs ys : List Sent) (old mid new : List OutletView) → Sends n stamp xs old mid → Sends n stamp ys mid new → Sends n stamp (xs ++ ys) old new
sends_more n stamp xs ys old mid new a b = record {
  count = b.count ∙ a.count;
  lanes = λ j x. b.lanes j x ∙ a.lanes j x;
  sent = λ d k x low. b.sent d k x low ∙ ap (λ ps. ps ++ parcels_to stamp d k ys) (a.sent d k x low) ∙ append_assoc (slice_index_or old (place d k) x).sent (parcels_to stamp d k xs) (parcels_to stamp d k ys) ∙ ap (λ ps. (slice_index_or old (place d k) x).sent ++ ps) (sym (parcels_to-append stamp d k xs ys));
  spare = λ j x. let p = a.spare j x in let q = b.spare j x in let l = length-append xs ys in grind arith;
}

one_to : (stamp d : ℕ) (k : Class) (s : Sent) (b : Bool) → goes_to d k s ≡ b → parcels_to stamp d k (s ∷ []) ≡ cond b (record { msg = s.msg; stamp = stamp } ∷ []) []
unfolding parcels_to
one_to stamp d k s b is = ap (λ i. cond i (record { msg = s.msg; stamp = stamp } ∷ []) []) is

-- one is sent by its lane
sent_by : (n stamp d : ℕ) (k : Class) (s : Sent) (old : List OutletView) (x y : OutletView) → place s.to.0 (class_of s.msg) < length old
    → y.sent ≡ (slice_index_or old (place s.to.0 (class_of s.msg)) x).sent ++ record { msg = s.msg; stamp = stamp } ∷ []
    → Apart s.to.0 d (class_of s.msg) k
    → (slice_index_or (slice_set old (place s.to.0 (class_of s.msg)) y) (place d k) x).sent ≡ (slice_index_or old (place d k) x).sent ++ parcels_to stamp d k (s ∷ [])
sent_by n stamp d k s old x y low is (IsOne to_is class_is) =
    subst (λ e. (slice_index_or (slice_set old (place s.to.0 (class_of s.msg)) y) (place e k) x).sent ≡ (slice_index_or old (place e k) x).sent ++ parcels_to stamp e k (s ∷ [])) to_is
    (subst (λ j. (slice_index_or (slice_set old (place s.to.0 (class_of s.msg)) y) (place s.to.0 j) x).sent ≡ (slice_index_or old (place s.to.0 j) x).sent ++ parcels_to stamp s.to.0 j (s ∷ [])) class_is
    (ap (λ (z : OutletView). z.sent) (get_or-set_same old (place s.to.0 (class_of s.msg)) y x low) ∙ is
    ∙ ap (λ ps. (slice_index_or old (place s.to.0 (class_of s.msg)) x).sent ++ ps) (sym (one_to stamp s.to.0 (class_of s.msg) s true (ap (λ i. i && same_class (class_of s.msg) (class_of s.msg)) (equal s.to.0) ∙ same_itself (class_of s.msg))))))
sent_by n stamp d k s old x y low is (Differ far other) =
    ap (λ (z : OutletView). z.sent) (get_or-set_other old (place s.to.0 (class_of s.msg)) (place d k) y x (λ e. far (sym e)))
    ∙ sym (append-nil (slice_index_or old (place d k) x).sent)
    ∙ ap (λ ps. (slice_index_or old (place d k) x).sent ++ ps) (sym (one_to stamp d k s false other))

-- how an end that is set differs from what it was
pub at_or_not : (P : ℕ → Type 0) (i j : ℕ) (b : Bool) → (i == j) ≡ b → P i → (i ≢ j → P j) → P j
at_or_not P i j true e here other = subst P (grind (arith, nat_tests)) here
at_or_not P i j false e here other = other (grind (arith, nat_tests))

-- an end that sent one more, and moved on what it could
pub record SendsOn (old new : OutletView) (q : Parcel) : Type 0 where
  pub lane : new.lane ≡ old.lane
  pub sent : new.sent ≡ old.sent ++ q ∷ []
  pub spare : old.spare ≤ new.spare + 1

pub sends_one : (n stamp : ℕ) (s : Sent) (old : List OutletView) (y : OutletView) → place s.to.0 (class_of s.msg) < length old
    → ((x : OutletView) → SendsOn (slice_index_or old (place s.to.0 (class_of s.msg)) x) y (record { msg = s.msg; stamp = stamp }))
    → Sends n stamp (s ∷ []) old (slice_set old (place s.to.0 (class_of s.msg)) y)
sends_one n stamp s old y low is =
    let at = place s.to.0 (class_of s.msg) in
    record {
      count = length-set old at y;
      lanes = λ j x. at_or_not (λ i. (slice_index_or (slice_set old at y) i x).lane ≡ (slice_index_or old i x).lane) at j (at == j) refl
          (ap (λ (z : OutletView). z.lane) (get_or-set_same old at y x low) ∙ (is x).lane) (λ far. ap (λ (z : OutletView). z.lane) (get_or-set_other old at j y x (λ e. far (sym e))));
      sent = λ d k x below. sent_by n stamp d k s old x y low (is x).sent (apart s.to.0 d (class_of s.msg) k);
      spare = λ j x. at_or_not (λ i. (slice_index_or old i x).spare ≤ (slice_index_or (slice_set old at y) i x).spare + 1) at j (at == j) refl
          (let e : (slice_index_or (slice_set old at y) at x).spare ≡ y.spare = ap (λ (z : OutletView). z.spare) (get_or-set_same old at y x low) in let f = (is x).spare in grind arith)
          (λ far. let e : (slice_index_or (slice_set old at y) j x).spare ≡ (slice_index_or old j x).spare = ap (λ (z : OutletView). z.spare) (get_or-set_other old at j y x (λ e. far (sym e))) in grind arith);
    }

-- one that goes to no cluster is let go
nowhere : (n d : ℕ) (k : Class) (s : Sent) (count : ℕ) → count ≡ 2 * n → count ≤ place s.to.0 (class_of s.msg) → d < n → Apart s.to.0 d (class_of s.msg) k → goes_to d k s ≡ false
nowhere n d k s count is past low (IsOne to_is class_is) = absurd (beyond n d k s.to.0 (class_of s.msg) count is past low to_is)
  where
    beyond : (n d : ℕ) (k : Class) (t : ℕ) (j : Class) (count : ℕ) → count ≡ 2 * n → count ≤ place t j → d < n → t ≡ d → ⊥
    beyond n d k t Request count is past low same = grind arith
    beyond n d k t Reply count is past low same = grind arith
nowhere n d k s count is past low (Differ far other) = other

pub sends_past : (n stamp : ℕ) (s : Sent) (old : List OutletView) → length old ≡ 2 * n → length old ≤ place s.to.0 (class_of s.msg) → Sends n stamp (s ∷ []) old old
sends_past n stamp s old count past = record {
  count = refl;
  lanes = λ j x. refl;
  sent = λ d k x low. sym (append-nil (slice_index_or old (place d k) x).sent) ∙ ap (λ ps. (slice_index_or old (place d k) x).sent ++ ps) (sym (one_to stamp d k s false (nowhere n d k s (length old) count past low (apart s.to.0 d (class_of s.msg) k))));
  spare = λ j x. grind arith;
}

pub sent_on : (old mid new : OutletView) (q : Parcel) → mid ≡ with_sent old q → new.lane ≡ mid.lane → new.sent ≡ mid.sent → length new.spool ≤ length mid.spool → new.spare + length new.spool ≡ mid.spare + length mid.spool → SendsOn old new q
sent_on old mid new q is lane sent fewer spare = record {
  lane = lane ∙ ap (λ (z : OutletView). z.lane) is;
  sent = sent ∙ ap (λ (z : OutletView). z.sent) is;
  spare = let e : mid.spare ≡ old.spare - 1 = ap (λ (z : OutletView). z.spare) is in grind arith;
}
