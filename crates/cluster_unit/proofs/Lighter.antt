-- What a core does to settle makes it lighter.
use Rattle.std.proofs.Common.{◌≡◌, ◌≢◌, ℕ, zero, suc, ◌+◌, ◌*◌, ◌<◌, ◌≤◌, ◌==◌, ◌&&◌, Bool, true, false, nat_lt, cond, Some, List, [], ◌∷◌, ◌++◌, length, map, slice_get, slice_index_or, refl, sym, ap, ap₂, ◌∙◌, subst, arith}
use Rattle.std.proofs.lemmas.Bool.Decides.{nat_tests}
use Rattle.dash_base.specs.declared.id.ClusterId.{ClusterId}
use Rattle.dash_base.specs.declared.id.LineId.{LineId}
use Rattle.dash_msg.specs.Classes.{class_of}
use Rattle.dash_msg.specs.declared.classes.Class.{Class}
use Rattle.dash_msg.specs.declared.classes.Class.TheVariants.{Request, Reply}
use Rattle.dash_msg.specs.declared.parcel.Parcel.{Parcel}
use Rattle.dash_event.specs.declared.event.Event.{Event}
use Rattle.dash_event.specs.declared.event.Kind.{Kind}
use Rattle.dash_event.specs.declared.event.Kind.TheVariants as kind
use Rattle.mesh_lanes.specs.View.{OutletView, InletView}
use Rattle.dash_model.specs.Maps.{weigh, total}
use Rattle.dash_model.specs.Config.{Config}
use Rattle.dash_model.specs.Net.{Packet, same_class, in_lane, lane, parcel}
use Rattle.dash_model.specs.Part.{Part, opening_part}
use Rattle.dash_model.specs.Machine.{Step, event_of, taken, part_after, sends}
use Rattle.dash_model.specs.Weight.{msg_weight, packet_weight, part_weight}
use Rattle.dash_model.specs.Settling.{IsInTheWay, SettlesBy}
use Rattle.dash_model.specs.LocalRun.{IsLocalRun, part_at, sent_in, received_in, packets_taken}
use Rattle.dash_model.specs.LocalWeights.{ComeFrom}
use Rattle.dash_model.proofs.LawsOffered.{local_runs_grow, local_weights_fall, total_same, total_le, total_add, total_change}
use Rattle.unit_rows.specs.declared.choice.Choice.{Choice}
use Rattle.unit_rows.specs.declared.choice.Choice.TheVariants as choice
use Rattle.unit_rows.specs.Choices.{IsOf}
use Rattle.unit_rows.specs.Shown.{hart_at}
use Rattle.unit_rows.specs.Local.{event_at}
use Rattle.cluster_unit.specs.Enabling.{is_take}
use Rattle.cluster_unit.specs.declared.turn.Turn.TheVariants.{Did, Idle}
use Rattle.cluster_unit.specs.View.{CoreView}
use Rattle.cluster_unit.specs.Ends.{place, parcel_of, parcels, Carry, NoneBeyond, Looked}
use Rattle.cluster_unit.specs.Core.{HasRun, IsAt, IsWeighed}
use Rattle.cluster_unit.specs.Turns.{Happened, OthersStay, Received}
use Rattle.cluster_unit.specs.Choosing.{Performed}
use Rattle.cluster_unit.specs.Settling.{IsSettling, FirstToSettle}
use Rattle.cluster_unit.specs.Weight.{parcels_weight, sent_weight, received_weight, went_to, came_from, went_out, came_in, IsLighter}
use Rattle.cluster_unit.proofs.Lanes.{parcels-append, same_itself}
use Rattle.cluster_unit.proofs.Cores.{none_taken}
use Rattle.cluster_unit.proofs.OnePart.{same_sent}
use Rattle.cluster_unit.proofs.LastStep.{last_step}

-- weights of lists
pub parcels_more : (n : ℕ) (xs ys : List Parcel) → parcels_weight n (xs ++ ys) ≡ parcels_weight n xs + parcels_weight n ys
unfolding parcels_weight
parcels_more n [] ys = omega arith
parcels_more n (x ∷ xs) ys = let rest = parcels_more n xs ys in omega arith

-- an end whose list is known
sent_is : (n : ℕ) (xs : List OutletView) (j : ℕ) (ps : List Parcel) → j < length xs → ((x : OutletView) → (slice_index_or xs j x).sent ≡ ps) → sent_weight n (slice_get xs j) ≡ parcels_weight n ps
sent_is n [] j ps low h = absurd (omega arith)
sent_is n (x ∷ xs) zero ps low h = ap (parcels_weight n) (h x)
sent_is n (x ∷ xs) (suc j) ps low h = sent_is n xs j ps (omega arith) h

received_same : (n : ℕ) (xs ys : List InletView) (j : ℕ) → length ys ≡ length xs → ((x : InletView) → (slice_index_or ys j x).received ≡ (slice_index_or xs j x).received) → received_weight n (slice_get ys j) ≡ received_weight n (slice_get xs j)
received_same n [] [] j count h = refl
received_same n [] (y ∷ ys) j count h = absurd (omega arith)
received_same n (x ∷ xs) [] j count h = absurd (omega arith)
received_same n (x ∷ xs) (y ∷ ys) zero count h = ap (parcels_weight n) (h x)
received_same n (x ∷ xs) (y ∷ ys) (suc j) count h = received_same n xs ys j (omega arith) h

received_more : (n : ℕ) (xs ys : List InletView) (j : ℕ) (q : Parcel) → j < length xs → length ys ≡ length xs → ((x : InletView) → (slice_index_or ys j x).received ≡ (slice_index_or xs j x).received ++ q ∷ [])
    → received_weight n (slice_get ys j) ≡ received_weight n (slice_get xs j) + msg_weight n q.msg
unfolding parcels_weight
received_more n [] ys j q low count h = absurd (omega arith)
received_more n (x ∷ xs) [] j q low count h = absurd (omega arith)
received_more n (x ∷ xs) (y ∷ ys) zero q low count h = ap (parcels_weight n) (h x) ∙ parcels_more n x.received (q ∷ []) ∙ (let e : parcels_weight n x.received + (msg_weight n q.msg + 0) ≡ parcels_weight n x.received + msg_weight n q.msg = omega arith in e)
received_more n (x ∷ xs) (y ∷ ys) (suc j) q low count h = received_more n xs ys j q (omega arith) (omega arith) h

-- what a packet adds to the lanes to a cluster
abbrev lanes_weight : ℕ → ℕ → List Packet → ℕ → ℕ
lanes_weight n c ps d = parcels_weight n (parcels c d Request ps) + parcels_weight n (parcels c d Reply ps)

one_packet : (n : ℕ) (q : Packet) (i j : Bool) (k : Class) → parcels_weight n (map parcel_of (cond (i && j && same_class k Request) (q ∷ []) [])) + parcels_weight n (map parcel_of (cond (i && j && same_class k Reply) (q ∷ []) [])) ≤ cond j (msg_weight n q.msg) 0
unfolding parcels_weight
one_packet n q true true Request = omega arith
one_packet n q true true Reply = omega arith
one_packet n q true false k = omega arith
one_packet n q false true k = omega arith
one_packet n q false false k = omega arith

one_by : (n c d : ℕ) (q : Packet) → lanes_weight n c (q ∷ []) d ≤ cond (q.dst == d) (msg_weight n q.msg) 0
unfolding lane
one_by n c d q = one_packet n q (q.src == c) (q.dst == d) (class_of q.msg)

lanes_more : (n c d : ℕ) (xs ys : List Packet) → lanes_weight n c (xs ++ ys) d ≡ lanes_weight n c xs d + lanes_weight n c ys d
lanes_more n c d xs ys =
    let asked = ap (parcels_weight n) (parcels-append c d Request xs ys) ∙ parcels_more n (parcels c d Request xs) (parcels c d Request ys) in
    let answered = ap (parcels_weight n) (parcels-append c d Reply xs ys) ∙ parcels_more n (parcels c d Reply xs) (parcels c d Reply ys) in
    omega arith

-- one term of a sum
none_below : (a m k : ℕ) → k ≤ a → total (λ d. cond (a == d) m 0) k ≡ 0
unfolding total
none_below a m zero low = refl
none_below a m (suc k) low =
    let far : (a == k) ≡ false = grind (arith, nat_tests) in
    let here : cond (a == k) m 0 ≡ 0 = ap (λ b. cond b m 0) far in
    let rest = none_below a m k (omega arith) in
    omega arith

last_one : (a m n : ℕ) (b : Bool) → (a == n) ≡ b → total (λ d. cond (a == d) m 0) n ≤ m → cond (a == n) m 0 + total (λ d. cond (a == d) m 0) n ≤ m
last_one a m n true e rest =
    let is : n ≤ a = grind (arith, nat_tests) in
    let none = none_below a m n is in
    let here : cond (a == n) m 0 ≡ m = ap (λ b. cond b m 0) e in
    omega arith
last_one a m n false e rest =
    let here : cond (a == n) m 0 ≡ 0 = ap (λ b. cond b m 0) e in
    omega arith

only_one : (a m n : ℕ) → total (λ d. cond (a == d) m 0) n ≤ m
unfolding total
only_one a m zero = omega arith
only_one a m (suc n) = last_one a m n (a == n) refl (only_one a m n)

-- the lanes carry no more than what is sent
none_carried : (n c m : ℕ) → total (lanes_weight n c []) m ≤ 0
unfolding total lane parcels_weight
none_carried n c zero = omega arith
none_carried n c (suc m) = let rest = none_carried n c m in omega arith

lanes_carry : (n c : ℕ) (ps : List Packet) → total (lanes_weight n c ps) n ≤ weigh (packet_weight n) ps
unfolding weigh
lanes_carry n c [] = none_carried n c n
lanes_carry n c (q ∷ qs) =
    let split = total_same (lanes_weight n c (q ∷ qs)) (λ d. lanes_weight n c (q ∷ []) d + lanes_weight n c qs d) n (λ d low. lanes_more n c d (q ∷ []) qs) in
    let sum = total_add (lanes_weight n c (q ∷ [])) (lanes_weight n c qs) n in
    let first = total_le (lanes_weight n c (q ∷ [])) (λ d. cond (q.dst == d) (msg_weight n q.msg) 0) n (λ d low. one_by n c d q) in
    let one = only_one q.dst (msg_weight n q.msg) n in
    let rest = lanes_carry n c qs in
    omega arith

-- a lane among those of n clusters
place_low : (d n m : ℕ) (k : Class) → m ≡ 2 * n → d < n → place d k < m
place_low d n m Request e low = omega arith
place_low d n m Reply e low = omega arith

-- ends that carry what was sent before, and these
went_more : (n c : ℕ) (old new : List OutletView) (sent ps : List Packet) → length old ≡ 2 * n → length new ≡ 2 * n
    → ((d : ℕ) (k : Class) (x : OutletView) → d < n → (slice_index_or old (place d k) x).sent ≡ parcels c d k sent)
    → ((d : ℕ) (k : Class) (x : OutletView) → d < n → (slice_index_or new (place d k) x).sent ≡ parcels c d k (sent ++ ps))
    → went_out n new ≤ went_out n old + weigh (packet_weight n) ps
unfolding went_out
went_more n c old new sent ps count_old count_new before now =
    let at_old : (d : ℕ) → d < n → went_to n old d ≡ lanes_weight n c sent d = λ d low. ap₂ (λ x y. x + y)
    (sent_is n old (place d Request) (parcels c d Request sent) (place_low d n (length old) Request count_old low) (λ x. before d Request x low))
    (sent_is n old (place d Reply) (parcels c d Reply sent) (place_low d n (length old) Reply count_old low) (λ x. before d Reply x low)) in
    let at_new : (d : ℕ) → d < n → went_to n new d ≡ lanes_weight n c (sent ++ ps) d = λ d low. ap₂ (λ x y. x + y)
    (sent_is n new (place d Request) (parcels c d Request (sent ++ ps)) (place_low d n (length new) Request count_new low) (λ x. now d Request x low))
    (sent_is n new (place d Reply) (parcels c d Reply (sent ++ ps)) (place_low d n (length new) Reply count_new low) (λ x. now d Reply x low)) in
    let was = total_same (went_to n old) (lanes_weight n c sent) n at_old in
    let is = total_same (went_to n new) (λ d. lanes_weight n c sent d + lanes_weight n c ps d) n (λ d low. at_new d low ∙ lanes_more n c d sent ps) in
    let sum = total_add (lanes_weight n c sent) (lanes_weight n c ps) n in
    let carried = lanes_carry n c ps in
    omega arith

-- a message more from one cluster
came_at : (n f : ℕ) (k : Class) (q : Parcel) (old new : List InletView) → place f k < length old → OthersStay (place f k) old new
    → ((x : InletView) → (slice_index_or new (place f k) x).received ≡ (slice_index_or old (place f k) x).received ++ q ∷ [])
    → came_from n new f ≡ came_from n old f + msg_weight n q.msg
came_at n f Request q old new low others got =
    let more = received_more n old new (place f Request) q low others.count got in
    let same = received_same n old new (place f Reply) others.count (λ x. ap (λ (y : InletView). y.received) (others.others (place f Reply) x (λ e. omega arith))) in
    omega arith
came_at n f Reply q old new low others got =
    let more = received_more n old new (place f Reply) q low others.count got in
    let same = received_same n old new (place f Request) others.count (λ x. ap (λ (y : InletView). y.received) (others.others (place f Request) x (λ e. omega arith))) in
    omega arith

far_place : (d f : ℕ) (j k : Class) → d ≢ f → place d j ≢ place f k
far_place d f Request Request far e = far (omega arith)
far_place d f Reply Reply far e = far (omega arith)
far_place d f Request Reply far e = far (omega arith)
far_place d f Reply Request far e = far (omega arith)

came_more : (n f : ℕ) (k : Class) (q : Parcel) (old new : List InletView) → length old ≡ 2 * n → f < n → OthersStay (place f k) old new
    → ((x : InletView) → (slice_index_or new (place f k) x).received ≡ (slice_index_or old (place f k) x).received ++ q ∷ [])
    → came_in n new ≡ came_in n old + msg_weight n q.msg
unfolding came_in
came_more n f k q old new count low others got =
    let here = came_at n f k q old new (place_low f n (length old) k count low) others got in
    let change = total_change (came_from n old) (came_from n new) f n low (λ d far. ap₂ (λ x y. x + y)
    (sym (received_same n old new (place d Request) others.count (λ x. ap (λ (y : InletView). y.received) (others.others (place d Request) x (far_place d f Request k far)))))
    (sym (received_same n old new (place d Reply) others.count (λ x. ap (λ (y : InletView). y.received) (others.others (place d Reply) x (far_place d f Reply k far)))))) in
    omega arith

-- the same where nothing was received
pub came_same : (n : ℕ) (old new : List InletView) → length new ≡ length old → ((j : ℕ) (x : InletView) → (slice_index_or new j x).received ≡ (slice_index_or old j x).received) → came_in n new ≡ came_in n old
unfolding came_in
came_same n old new count same = total_same (came_from n new) (came_from n old) n (λ d low. ap₂ (λ x y. x + y)
    (received_same n old new (place d Request) count (same (place d Request)))
    (received_same n old new (place d Reply) count (same (place d Reply))))

sent_same : (n : ℕ) (xs ys : List OutletView) (j : ℕ) → length ys ≡ length xs → ((x : OutletView) → (slice_index_or ys j x).sent ≡ (slice_index_or xs j x).sent) → sent_weight n (slice_get ys j) ≡ sent_weight n (slice_get xs j)
sent_same n [] [] j count h = refl
sent_same n [] (y ∷ ys) j count h = absurd (omega arith)
sent_same n (x ∷ xs) [] j count h = absurd (omega arith)
sent_same n (x ∷ xs) (y ∷ ys) zero count h = ap (parcels_weight n) (h x)
sent_same n (x ∷ xs) (y ∷ ys) (suc j) count h = sent_same n xs ys j (omega arith) h

-- and where nothing was sent
pub went_same : (n : ℕ) (old new : List OutletView) → length new ≡ length old → ((j : ℕ) (x : OutletView) → (slice_index_or new j x).sent ≡ (slice_index_or old j x).sent) → went_out n new ≡ went_out n old
unfolding went_out
went_same n old new count same = total_same (went_to n new) (went_to n old) n (λ d low. ap₂ (λ x y. x + y)
    (sent_same n old new (place d Request) count (same (place d Request)))
    (sent_same n old new (place d Reply) count (same (place d Reply))))

-- the choice to settle is of an event to settle
settles : (w : Config) (c : ℕ) (x : Choice) (e : Kind) (p : Part) → IsOf w c x e → IsSettling w c x p → SettlesBy w e p
settles w c (choice.Take f k) (kind.Take g m) p is s = tt
settles w c (choice.Take f k) (kind.Free g a) p is s = tt
settles w c (choice.Grant i) (kind.Grant a) p is s = tt
settles w c (choice.Install n) (kind.Install slot g l) p is s = tt
settles w c (choice.Evict k l) (kind.Evict g m) p is s = subst (λ h. IsInTheWay w h m.0 p) (sym is.0) (subst (λ (y : LineId). IsInTheWay w (hart_at w c k) y.0 p) (sym is.1) s)
settles w c (choice.Take f k) e p is s = absurd is
settles w c (choice.Grant i) e p is s = absurd is
settles w c (choice.Install n) e p is s = absurd is
settles w c (choice.Evict k l) e p is s = absurd is
settles w c x e p is s = absurd s

-- what is taken weighs the same with any stamp
any_stamp : (n c u v : ℕ) (e : Kind) → weigh (packet_weight n) (taken c u e) ≡ weigh (packet_weight n) (taken c v e)
unfolding weigh
any_stamp n c u v (kind.Take f m) = refl
any_stamp n c u v (kind.Free f a) = refl
any_stamp n c u v e = refl

-- messages from clusters of the machine
not_beyond : (n f b : ℕ) (k : Class) (q : Packet) (qs : List Packet) → in_lane f b k q ≡ true → lane f b k (q ∷ qs) ≡ [] → ⊥
unfolding lane
not_beyond n f b k q qs here none = let e : q ∷ lane f b k qs ≡ [] = sym (ap (λ i. cond i (q ∷ lane f b k qs) (lane f b k qs)) here) ∙ none in cc

rest_beyond : (f b : ℕ) (k : Class) (q : Packet) (qs : List Packet) (i : Bool) → in_lane f b k q ≡ i → lane f b k (q ∷ qs) ≡ [] → lane f b k qs ≡ []
unfolding lane
rest_beyond f b k q qs true e none = absurd (let s : q ∷ lane f b k qs ≡ [] = sym (ap (λ i. cond i (q ∷ lane f b k qs) (lane f b k qs)) e) ∙ none in cc)
rest_beyond f b k q qs false e none = sym (ap (λ i. cond i (q ∷ lane f b k qs) (lane f b k qs)) e) ∙ none

come_from : (n : ℕ) (xs ys : List Packet) → NoneBeyond n (xs ++ ys) → ComeFrom n xs
come_from n [] ys none = tt
come_from n (q ∷ qs) ys none = (by_source (nat_lt q.src n) refl, come_from n qs ys (λ f b k high. rest_beyond f b k q (qs ++ ys) (in_lane f b k q) refl (none f b k high)))
  where
    own_lane : in_lane q.src q.dst (class_of q.msg) q ≡ true
    own_lane = let a : (q.src == q.src) ≡ true = grind (arith, nat_tests) in let b : (q.dst == q.dst) ≡ true = grind (arith, nat_tests) in ap₂ (λ i j. i && j && same_class (class_of q.msg) (class_of q.msg)) a b ∙ same_itself (class_of q.msg)

    by_source : (i : Bool) → nat_lt q.src n ≡ i → q.src < n
    by_source true e = grind (arith, nat_tests)
    by_source false e = absurd (not_beyond n q.src q.dst (class_of q.msg) q (qs ++ ys) own_lane (none q.src q.dst (class_of q.msg) (let high : n ≤ q.src = grind (arith, nat_tests) in high)))

weigh_one : (n : ℕ) (q : Packet) → weigh (packet_weight n) (q ∷ []) ≡ msg_weight n q.msg
unfolding weigh
weigh_one n q = omega arith

weigh_none : (n : ℕ) (ps : List Packet) → ps ≡ [] → weigh (packet_weight n) ps ≡ 0
unfolding weigh
weigh_none n ps is = ap (weigh (packet_weight n)) is

-- a choice that was done: its event, which settles where the choice does, and what came in by it
record DidOne (x : Choice) (a b : CoreView) : Type 0 where
  event : Kind
  stamp : ℕ
  settles : (p : Part) → IsSettling a.config a.cluster x p → SettlesBy a.config event p
  log : b.log ≡ a.log ++ event_at a.cluster stamp event ∷ []
  config : b.config ≡ a.config
  cluster : b.cluster ≡ a.cluster
  takes : came_in a.config.top.clusters b.inlets ≡ came_in a.config.top.clusters a.inlets + weigh (packet_weight a.config.top.clusters) (taken a.cluster 0 event)

taken_one : (from : ClusterId) (k : Class) (a b : CoreView) → length a.inlets ≡ 2 * a.config.top.clusters → from.0 < a.config.top.clusters → Received from k a b → DidOne (choice.Take from k) a b
taken_one from k a b count low r =
    let n = a.config.top.clusters in
    let h = r.happened in
    record {
      event = h.event;
      stamp = h.stamp;
      settles = λ p s. settles a.config a.cluster (choice.Take from (class_of r.got.msg)) h.event p h.is_of tt;
      log = h.log;
      config = h.config;
      cluster = h.cluster;
      takes =
          came_more n from.0 k r.got a.inlets b.inlets count low r.others r.received
          ∙ ap (λ m. came_in n a.inlets + m) (sym (weigh_one n (parcel from.0 a.cluster r.got.msg r.got.stamp)) ∙ ap (weigh (packet_weight n)) (sym r.takes) ∙ any_stamp n a.cluster r.got.stamp 0 h.event);
    }

acted_one : (x : Choice) (a b : CoreView) → is_take x ≡ false → Happened x a b → b.inlets ≡ a.inlets → DidOne x a b
acted_one x a b own h same =
    let n = a.config.top.clusters in
    record {
      event = h.event;
      stamp = h.stamp;
      settles = λ p s. settles a.config a.cluster x h.event p h.is_of s;
      log = h.log;
      config = h.config;
      cluster = h.cluster;
      takes = (let still = ap (came_in n) same in let none = weigh_none n (taken a.cluster 0 h.event) (none_taken a.config a.cluster 0 x h.event own h.is_of) in omega arith);
    }

did_one : (x : Choice) (a b : CoreView) → length a.inlets ≡ 2 * a.config.top.clusters → Performed x Did a b → DidOne x a b
did_one (choice.Take from k) a b count p = by_range (nat_lt from.0 a.config.top.clusters) refl
  where
    by_range : (r : Bool) → nat_lt from.0 a.config.top.clusters ≡ r → DidOne (choice.Take from k) a b
    by_range true e = let low : from.0 < a.config.top.clusters = grind (arith, nat_tests) in taken_one from k a b count low (p.0 low)
    by_range false e = absurd (let idle : Did ≡ Idle = (p.1 (grind (arith, nat_tests))).0 in cc)
did_one x a b count p = acted_one x a b refl p.0 p.1

-- its run, and its weight, of a cluster of a machine
record Ran (w : Config) (c : ℕ) (a : CoreView) : Type 0 where
  history : List Step
  events : map event_of history ≡ a.log
  ran : IsLocalRun w c (opening_part w) history
  carry : Carry w.top.clusters c (sent_in w c (opening_part w) history) a.outlets
  sources : NoneBeyond w.top.clusters (received_in c history)
  outlets : length a.outlets ≡ 2 * w.top.clusters
  weight : a.weight ≡ part_weight w (part_at w c (opening_part w) history)

ran_of : (a : CoreView) → HasRun a → IsWeighed a → Ran a.config a.cluster a
ran_of a r weighed = record {
  history = r.history;
  events = r.events;
  ran = r.ran;
  carry = r.carry;
  sources = r.sources;
  outlets = r.outlets;
  weight = weighed (part_at a.config a.cluster (opening_part a.config) r.history) (record { history = r.history; events = r.events; ran = r.ran; part = refl });
}

-- a settling choice that was done makes it lighter
lighter_by : (x : Choice) (a b : CoreView) → HasRun a → IsWeighed a → Ran a.config a.cluster b → FirstToSettle a (Some x) → DidOne x a b → IsLighter a b
lighter_by x a b ran weighed after first d =
    let w = a.config in
    let c = a.cluster in
    let n = w.top.clusters in
    let start = opening_part w in
    let last = last_step w c start after.history a.log (event_at c d.stamp d.event) (after.events ∙ d.log) after.ran in
    let g = last.step in
    let p = part_at w c start last.before in
    let at : IsAt a p = record { history = last.before; events = last.events; ran = last.ran; part = refl } in
    let grows = local_runs_grow w c start last.before g last.ran last.steps in
    let kind_is : g.event.kind ≡ d.event = ap (λ (e : Event). e.kind) last.event in
    let was : a.weight ≡ part_weight w p = weighed p at in
    let is : b.weight ≡ part_weight w (part_after w c g p) = after.weight ∙ ap (λ hs. part_weight w (part_at w c start hs)) last.is ∙ ap (part_weight w) grows.part in
    let sent = same_sent w c start last.before ran.history (last.events ∙ sym ran.events) last.ran ran.ran in
    let out = went_more n c a.outlets b.outlets (sent_in w c start last.before) (sends w c g p) ran.outlets after.outlets
    (λ to k y low. ran.carry to k y low ∙ ap (parcels c to k) (sym sent))
    (λ to k y low. after.carry to k y low ∙ ap (λ hs. parcels c to k (sent_in w c start hs)) last.is ∙ ap (parcels c to k) grows.sent) in
    let from = come_from n (received_in c last.before) (packets_taken c g) (subst (NoneBeyond n) (ap (received_in c) last.is ∙ grows.received) after.sources) in
    let falls : weigh (packet_weight n) (sends w c g p) + part_weight w (part_after w c g p) < weigh (packet_weight n) (packets_taken c g) + part_weight w p
    = local_weights_fall w c last.before g last.ran from last.steps (subst (λ e. SettlesBy w e p) (sym kind_is) (d.settles p (first p at).settles)) in
    let taken_is : weigh (packet_weight n) (packets_taken c g) ≡ weigh (packet_weight n) (taken c 0 d.event) = any_stamp n c g.stamp 0 g.event.kind ∙ ap (λ e. weigh (packet_weight n) (taken c 0 e)) kind_is in
    let came = d.takes in
    omega arith

pub lighter : (x : Choice) (a b : CoreView) → HasRun a → IsWeighed a → HasRun b → IsWeighed b → FirstToSettle a (Some x) → Performed x Did a b → IsLighter a b
lighter x a b ran weighed ran_after weighed_after first done =
    let d = did_one x a b ran.inlets done in
    lighter_by x a b ran weighed (subst (λ c. Ran a.config c b) d.cluster (subst (λ w. Ran w b.cluster b) d.config (ran_of b ran_after weighed_after))) first d

-- a core that was only looked at weighs the same
pub lighter_looked : (a seen b : CoreView) → seen ≡ record a { inlets = seen.inlets } → Looked a.inlets seen.inlets → IsLighter seen b → IsLighter a b
lighter_looked a seen b same looked less =
    let config_is : seen.config ≡ a.config = ap (λ (y : CoreView). y.config) same in
    let weight_is : seen.weight ≡ a.weight = ap (λ (y : CoreView). y.weight) same in
    let out_is : seen.outlets ≡ a.outlets = ap (λ (y : CoreView). y.outlets) same in
    let n = a.config.top.clusters in
    let came = came_same n a.inlets seen.inlets looked.count looked.received in
    let now : went_out n b.outlets + b.weight + came_in n seen.inlets < went_out n seen.outlets + seen.weight + came_in n b.inlets
    = subst (λ (w : Config). went_out w.top.clusters b.outlets + b.weight + came_in w.top.clusters seen.inlets < went_out w.top.clusters seen.outlets + seen.weight + came_in w.top.clusters b.inlets) config_is less in
    let went : went_out n seen.outlets ≡ went_out n a.outlets = ap (went_out n) out_is in
    omega arith
