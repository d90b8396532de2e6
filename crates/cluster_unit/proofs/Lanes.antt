-- What lanes carry, and what they brought, where one more event is done.
use Rattle.std.proofs.Common.{◌≡◌, ◌≢◌, ℕ, ◌<◌, ◌==◌, ◌&&◌, Bool, true, false, cond, List, [], ◌∷◌, ◌++◌, map, slice_index_or, refl, sym, ap, ap₂, ◌∙◌, subst, arith}
use Rattle.std.proofs.lemmas.Bool.Decides.{nat_tests}
use Rattle.std.proofs.lemmas.List.{map-append, append-nil}
use Rattle.dash_base.specs.declared.id.ClusterId.{ClusterId}
use Rattle.dash_msg.specs.Classes.{class_of}
use Rattle.dash_msg.specs.declared.classes.Class.{Class}
use Rattle.dash_msg.specs.declared.classes.Class.TheVariants.{Request, Reply}
use Rattle.dash_msg.specs.declared.msg.Msg.{Msg}
use Rattle.dash_msg.specs.declared.parcel.Parcel.{Parcel}
use Rattle.dash_msg.specs.declared.parcel.Sent.{Sent}
use Rattle.mesh_lanes.specs.View.{OutletView, InletView}
use Rattle.dash_model.specs.Net.{Packet, same_class, in_lane, lane, packet, parcel}
use Rattle.dash_model.proofs.LawsOffered.{lane-append}
use Rattle.cluster_unit.specs.Ends.{place, parcel_of, parcels, AllOfClass, Carry, AreOfClass, Brought, NoneBeyond, parcels_to, Sends}
use Rattle.cluster_unit.specs.Turns.{OthersStay}

pub parcels-append : (a b : ℕ) (k : Class) (xs ys : List Packet) → parcels a b k (xs ++ ys) ≡ parcels a b k xs ++ parcels a b k ys
parcels-append a b k xs ys = ap (map parcel_of) (lane-append a b k xs ys) ∙ map-append parcel_of (lane a b k xs) (lane a b k ys)

pub equal : (n : ℕ) → (n == n) ≡ true
equal n = grind (arith, nat_tests)

cond_parcels : (i : Bool) (q : Packet) (qs : List Packet) (rs : List Parcel) → map parcel_of qs ≡ rs → map parcel_of (cond i (q ∷ qs) qs) ≡ cond i (parcel_of q ∷ rs) rs
cond_parcels true q qs rs e = ap (λ ps. parcel_of q ∷ ps) e
cond_parcels false q qs rs e = e

-- what a cluster's event sends, as the lane has it
pub parcels_sent : (stamp c d : ℕ) (k : Class) (ss : List Sent) → parcels c d k (map (packet stamp c) ss) ≡ parcels_to stamp d k ss
unfolding lane parcels_to
parcels_sent stamp c d k [] = refl
parcels_sent stamp c d k (s ∷ ss) =
    cond_parcels (in_lane c d k (packet stamp c s)) (packet stamp c s) (lane c d k (map (packet stamp c) ss)) (parcels_to stamp d k ss) (parcels_sent stamp c d k ss)
    ∙ ap (λ i. cond (i && (s.to.0 == d) && same_class (class_of s.msg) k) (record { msg = s.msg; stamp = stamp } ∷ parcels_to stamp d k ss) (parcels_to stamp d k ss)) (equal c)

-- the lanes carry what was sent, and what is sent now
pub carry_more : (n c stamp : ℕ) (sent : List Packet) (ss : List Sent) (old new : List OutletView) → Carry n c sent old → Sends n stamp ss old new → Carry n c (sent ++ map (packet stamp c) ss) new
carry_more n c stamp sent ss old new carry sends d k x low =
    sends.sent d k x low
    ∙ ap (λ ps. ps ++ parcels_to stamp d k ss) (carry d k x low)
    ∙ ap (λ ps. parcels c d k sent ++ ps) (sym (parcels_sent stamp c d k ss))
    ∙ sym (parcels-append c d k sent (map (packet stamp c) ss))

-- messages of one class, and one more
pub of_class_before : (k : Class) (xs : List Parcel) (q : Parcel) → AllOfClass k (xs ++ q ∷ []) → AllOfClass k xs × (class_of q.msg ≡ k)
of_class_before k [] q all = (tt, all.0)
of_class_before k (x ∷ xs) q all = let rest = of_class_before k xs q all.1 in ((all.0, rest.0), rest.1)

-- whether two classes are one, and what follows
one_class : (j k : Class) → same_class j k ≡ true → j ≡ k
one_class Request Request e = refl
one_class Reply Reply e = refl
one_class Request Reply e = absurd (cc)
one_class Reply Request e = absurd (cc)

pub same_itself : (k : Class) → same_class k k ≡ true
same_itself Request = refl
same_itself Reply = refl

-- two lanes are one, or stand at other places
pub data Apart (f g : ℕ) (j k : Class) : Type 0 where
  IsOne : f ≡ g → j ≡ k → Apart f g j k
  Differ : place f j ≢ place g k → ((f == g) && same_class j k) ≡ false → Apart f g j k

apart_by : (f g : ℕ) (j k : Class) (b : Bool) → (f == g) ≡ b → Apart f g j k
apart_by f g Request Request true e = IsOne (grind (arith, nat_tests)) refl
apart_by f g Reply Reply true e = IsOne (grind (arith, nat_tests)) refl
apart_by f g Request Reply true e = Differ (λ s. let h : f ≡ g = grind (arith, nat_tests) in absurd (grind arith)) (ap (λ x. x && false) e)
apart_by f g Reply Request true e = Differ (λ s. let h : f ≡ g = grind (arith, nat_tests) in absurd (grind arith)) (ap (λ x. x && false) e)
apart_by f g Request Request false e = Differ (λ s. let h : f ≢ g = grind (arith, nat_tests) in absurd (h (grind arith))) (ap (λ x. x && true) e)
apart_by f g Reply Reply false e = Differ (λ s. let h : f ≢ g = grind (arith, nat_tests) in absurd (h (grind arith))) (ap (λ x. x && true) e)
apart_by f g Request Reply false e = Differ (λ s. absurd (grind arith)) (ap (λ x. x && false) e)
apart_by f g Reply Request false e = Differ (λ s. absurd (grind arith)) (ap (λ x. x && false) e)

pub apart : (f g : ℕ) (j k : Class) → Apart f g j k
apart f g j k = apart_by f g j k (f == g) refl

-- the lane of a packet that was taken has it, and no other one
pub taken_in : (f c u : ℕ) (k : Class) (m : Msg) → class_of m ≡ k → parcels f c k (parcel f c m u ∷ []) ≡ record { msg = m; stamp = u } ∷ []
unfolding lane
taken_in f c u k m is =
    let here : in_lane f c k (parcel f c m u) ≡ true = ap (λ i. i && (c == c) && same_class (class_of m) k) (equal f) ∙ ap (λ i. i && same_class (class_of m) k) (equal c) ∙ ap (λ j. same_class j k) is ∙ same_itself k in
    ap (λ i. map parcel_of (cond i (parcel f c m u ∷ []) [])) here

first_false : (i j : Bool) → (i && j) ≡ false → (i && true && j) ≡ false
first_false true j e = e
first_false false j e = refl

pub taken_elsewhere : (f g c u : ℕ) (k : Class) (m : Msg) → ((f == g) && same_class (class_of m) k) ≡ false → parcels g c k (parcel f c m u ∷ []) ≡ []
unfolding lane
taken_elsewhere f g c u k m not_here =
    let elsewhere : in_lane g c k (parcel f c m u) ≡ false = ap (λ i. (f == g) && i && same_class (class_of m) k) (equal c) ∙ first_false (f == g) (same_class (class_of m) k) not_here in
    ap (λ i. map parcel_of (cond i (parcel f c m u ∷ []) [])) elsewhere

-- the inlets before, where they bring messages of their class now
pub honest_before : (n : ℕ) (from : ClusterId) (k : Class) (q : Parcel) (old new : List InletView) → from.0 < n
    → ((x : InletView) → (slice_index_or new (place from.0 k) x).received ≡ (slice_index_or old (place from.0 k) x).received ++ q ∷ [])
    → OthersStay (place from.0 k) old new → AreOfClass n new → AreOfClass n old
honest_before n from k q old new low got others honest g j x below = honest_by n from k q old new got others g j x (apart g from.0 j k) (honest g j x below)
  where
    honest_by : (n : ℕ) (from : ClusterId) (k : Class) (q : Parcel) (old new : List InletView)
        → ((x : InletView) → (slice_index_or new (place from.0 k) x).received ≡ (slice_index_or old (place from.0 k) x).received ++ q ∷ [])
        → OthersStay (place from.0 k) old new → (g : ℕ) (j : Class) (x : InletView) → Apart g from.0 j k
        → AllOfClass j (slice_index_or new (place g j) x).received → AllOfClass j (slice_index_or old (place g j) x).received
    honest_by n from k q old new got others g j x (IsOne is is_k) all =
        let now : AllOfClass k ((slice_index_or old (place from.0 k) x).received ++ q ∷ []) = subst (AllOfClass k) (got x) (subst (λ y. AllOfClass k (slice_index_or new (place y k) x).received) is (subst (λ y. AllOfClass y (slice_index_or new (place g y) x).received) is_k all)) in
        subst (λ y. AllOfClass y (slice_index_or old (place g y) x).received) (sym is_k) (subst (λ y. AllOfClass k (slice_index_or old (place y k) x).received) (sym is) (of_class_before k (slice_index_or old (place from.0 k) x).received q now).0)
    honest_by n from k q old new got others g j x (Differ far other) all = subst (λ (y : InletView). AllOfClass j y.received) (others.others (place g j) x far) all

-- the inlets brought what was taken, and the message that is taken now
pub brought_more : (n c : ℕ) (from : ClusterId) (k : Class) (q : Parcel) (received : List Packet) (old new : List InletView) → from.0 < n
    → ((x : InletView) → (slice_index_or new (place from.0 k) x).received ≡ (slice_index_or old (place from.0 k) x).received ++ q ∷ [])
    → OthersStay (place from.0 k) old new → (AreOfClass n old → Brought n c received old) → AreOfClass n new → Brought n c (received ++ parcel from.0 c q.msg q.stamp ∷ []) new
brought_more n c from k q received old new low got others before honest g j x below =
    brought_by (apart from.0 g k j)
    ∙ sym (parcels-append g c j received (parcel from.0 c q.msg q.stamp ∷ []))
  where
    brought_was : Brought n c received old
    brought_was = before (honest_before n from k q old new low got others honest)

    class_is : class_of q.msg ≡ k
    class_is = (of_class_before k (slice_index_or old (place from.0 k) x).received q (subst (AllOfClass k) (got x) (honest from.0 k x low))).1

    brought_by : Apart from.0 g k j → (slice_index_or new (place g j) x).received ≡ parcels g c j received ++ parcels g c j (parcel from.0 c q.msg q.stamp ∷ [])
    brought_by (IsOne is is_k) =
        subst (λ y. (slice_index_or new (place y j) x).received ≡ parcels y c j received ++ parcels y c j (parcel from.0 c q.msg q.stamp ∷ [])) is
        (subst (λ y. (slice_index_or new (place from.0 y) x).received ≡ parcels from.0 c y received ++ parcels from.0 c y (parcel from.0 c q.msg q.stamp ∷ [])) is_k
        (got x ∙ ap₂ (λ ps qs. ps ++ qs) (brought_was from.0 k x low) (sym (taken_in from.0 c q.stamp k q.msg class_is))))
    brought_by (Differ far other) =
        ap (λ (y : InletView). y.received) (others.others (place g j) x (λ e. far (sym e)))
        ∙ brought_was g j x below
        ∙ sym (append-nil (parcels g c j received))
        ∙ ap (λ ps. parcels g c j received ++ ps) (sym (taken_elsewhere from.0 g c q.stamp j q.msg (ap (λ y. (from.0 == g) && same_class y j) class_is ∙ other)))

-- a packet from one of n clusters is in no lane from beyond them
not_beyond : (n c f u : ℕ) (m : Msg) → f < n → NoneBeyond n (parcel f c m u ∷ [])
unfolding lane
not_beyond n c f u m low g b k high =
    let far : (f == g) ≡ false = grind (arith, nat_tests) in
    ap (λ i. cond (i && (c == b) && same_class (class_of m) k) (parcel f c m u ∷ []) []) far

-- nothing was taken from beyond n clusters, and the message that is taken now is from one of them
pub none_beyond_more : (n c f u : ℕ) (m : Msg) (received : List Packet) → f < n → NoneBeyond n received → NoneBeyond n (received ++ parcel f c m u ∷ [])
none_beyond_more n c f u m received low before g b k high =
    lane-append g b k received (parcel f c m u ∷ [])
    ∙ ap₂ (λ (ps qs : List Packet). ps ++ qs) (before g b k high) (not_beyond n c f u m low g b k high)
