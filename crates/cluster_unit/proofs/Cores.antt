-- What a core keeps, where an event is done or a turn is used.
use Rattle.std.proofs.Common.{◌≡◌, ◌==◌, ℕ, ◌+◌, ◌-◌, ◌*◌, ◌<◌, ◌≤◌, min, max, nat_lt, cond, Bool, true, false, Option, None, Some, List, [], ◌∷◌, ◌++◌, length, map, option_to_list, slice_index_or, refl, sym, ap, ◌∙◌, subst, arith}
use Rattle.std.proofs.lemmas.Bool.Decides.{nat_tests}
use Rattle.std.proofs.lemmas.List.{length-append, append-nil, with_items_is}
use Rattle.std.specs.Prelude.{Vec}
use mathlib.Core.List.{IsPrefix}
use Rattle.std.specs.Vec.{with_items}
use Rattle.dash_base.specs.declared.id.ClusterId.{ClusterId}
use Rattle.dash_msg.specs.Classes.{class_of}
use Rattle.dash_msg.specs.declared.classes.Class.{Class}
use Rattle.dash_msg.specs.declared.classes.Class.TheVariants.{Request, Reply}
use Rattle.dash_msg.specs.declared.parcel.Parcel.{Parcel}
use Rattle.dash_msg.specs.declared.parcel.Sent.{Sent}
use Rattle.dash_event.specs.declared.event.Event.{Event}
use Rattle.dash_event.specs.declared.event.Kind.{Kind}
use Rattle.dash_event.specs.declared.event.Kind.TheVariants as kind
use Rattle.mesh_lanes.specs.View.{OutletView, InletView}
use Rattle.dash_model.specs.Maps.{raised, most}
use Rattle.dash_model.specs.Config.{Config}
use Rattle.dash_model.specs.Net.{Packet, lane, packet}
use Rattle.dash_model.specs.Part.{Part, opening_part}
use Rattle.dash_model.specs.Machine.{taken, stamp_of, next_stamp}
use Rattle.dash_model.specs.LocalRun.{part_at, sent_in, received_in}
use Rattle.unit_rows.specs.declared.choice.Choice.{Choice}
use Rattle.unit_rows.specs.declared.choice.Choice.TheVariants as choice
use Rattle.unit_rows.specs.Choices.{IsOf}
use Rattle.unit_rows.specs.Shown.{PartsView, hart_at, Shows, AreSized}
use Rattle.unit_rows.specs.Opening.{IsOpening}
use Rattle.unit_rows.specs.declared.parts.Local.{Local}
use Rattle.unit_rows.specs.Rows.{Does, Cannot, DoesChoice}
use Rattle.unit_rows.specs.Local.{event_at}
use Rattle.unit_rows.specs.Left.{weight_left}
use Rattle.dash_model.proofs.LawsOffered.{local_runs_queue_at_home}
use Rattle.unit_rows.proofs.LawsOffered.{local_more, opening_shows, opening_sized, left_is}
use Rattle.cluster_unit.specs.Enabling.{is_take}
use Rattle.cluster_unit.specs.View.{CoreView}
use Rattle.cluster_unit.specs.Ends.{place, parcels, AllOfClass, Carry, AreOfClass, Brought, NoneBeyond, Sends, HaveSpare}
use Rattle.cluster_unit.specs.Core.{HasRun, IsAt, IsWeighed, IsCore}
use Rattle.cluster_unit.specs.Turns.{IsIdle, SameOutlets, Happened, OthersStay, Received}
use Rattle.cluster_unit.specs.Messages.{Took}
use Rattle.cluster_unit.proofs.Lanes.{carry_more, brought_more, none_beyond_more}
use Rattle.cluster_unit.proofs.OnePart.{same_part}
use Rattle.cluster_unit.proofs.Sending.{at_or_not}

-- it tells its run
pub has_run : (v : PartsView) (last : ℕ) (a : CoreView) (capacity : ℕ) → IsCore v last a capacity → HasRun a
has_run v last a capacity k = record {
  history = k.local.history;
  events = k.local.events;
  ran = k.local.ran;
  carry = subst (λ ps. Carry a.config.top.clusters a.cluster ps a.outlets) (sym k.local.sent_is) k.carry;
  brought = λ honest. subst (λ ps. Brought a.config.top.clusters a.cluster ps a.inlets) (sym k.local.received_is) (k.brought honest);
  sources = subst (NoneBeyond a.config.top.clusters) (sym k.local.received_is) k.sources;
  outlets = k.outlets;
  inlets = k.inlets;
}

-- its parts show the one part that its log leads to
pub shows_at : (v : PartsView) (last : ℕ) (a : CoreView) (capacity : ℕ) (p : Part) → IsCore v last a capacity → IsAt a p → Shows a.config a.cluster v p
shows_at v last a capacity p k at =
    subst (Shows a.config a.cluster v)
    (same_part a.config a.cluster (opening_part a.config) k.local.history at.history (k.local.events ∙ sym at.events) k.local.ran at.ran ∙ sym at.part)
    k.local.shows

-- there is such a part
pub is_at : (v : PartsView) (last : ℕ) (a : CoreView) (capacity : ℕ) → (k : IsCore v last a capacity) → IsAt a (part_at a.config a.cluster (opening_part a.config) k.local.history)
is_at v last a capacity k = record { history = k.local.history; events = k.local.events; ran = k.local.ran; part = refl }

-- and have its weight
pub weighed : (v : PartsView) (last : ℕ) (a : CoreView) (capacity : ℕ) → IsCore v last a capacity → IsWeighed a
weighed v last a capacity k p at =
    k.weight
    ∙ left_is a.config a.cluster v p (shows_at v last a capacity p k at) k.sized
    (λ i far. ap (λ (y : Part). (y.locks i).queue) at.part ∙ local_runs_queue_at_home a.config a.cluster at.history i at.ran far)

-- what can't be done on the parts can't be done where the log leads to
pub idle_at : (v : PartsView) (last : ℕ) (a : CoreView) (capacity : ℕ) (x : Choice) → IsCore v last a capacity → Cannot a.config a.cluster v x → IsIdle a x
idle_at v last a capacity x k cannot p at able = cannot p (shows_at v last a capacity p k at) able

-- memory for fewer turns is there too
fewer : (n m : ℕ) (outlets : List OutletView) → n ≤ m → HaveSpare (17 * m) outlets → HaveSpare (17 * n) outlets
fewer n m outlets less spare j x low = let have = spare j x low in grind arith

-- inlets received no more, and turns may be used
pub core_kept : (v : PartsView) (last : ℕ) (a : CoreView) (capacity reserved : ℕ) (inlets : List InletView) → IsCore v last a capacity → reserved ≤ a.reserved → length inlets ≡ length a.inlets
    → ((i : ℕ) (x : InletView) → (slice_index_or inlets i x).received ≡ (slice_index_or a.inlets i x).received)
    → IsCore v last (record a { inlets = inlets; reserved = reserved }) capacity
core_kept v last a capacity reserved inlets k less count same = record {
  sent = k.sent;
  received = k.received;
  local = k.local;
  weight = k.weight;
  carry = k.carry;
  brought = λ honest f j x low. same (place f j) x ∙ k.brought (λ g i y below. subst (AllOfClass i) (same (place g i) y) (honest g i y below)) f j x low;
  sources = k.sources;
  sized = k.sized;
  mine = k.mine;
  outlets = k.outlets;
  inlets = count ∙ k.inlets;
  spare = fewer reserved a.reserved a.outlets less k.spare;
  room = let r = k.room in grind arith;
  short = let s = k.short in grind arith;
}

-- where memory for a turn is left once it sent at most 17 messages
spare_left : (m n stamp : ℕ) (ss : List Sent) (old new : List OutletView) → 0 < m → length ss ≤ 17 → Sends n stamp ss old new → HaveSpare (17 * m) old → HaveSpare (17 * (m - 1)) new
spare_left m n stamp ss old new some few sends spare j x low =
    let at : j < length old = subst (λ y. j < y) sends.count low in
    let had = spare j x at in
    let left = sends.spare j x in
    grind arith

-- one event more
pub core_more : (v z : PartsView) (last : ℕ) (a : CoreView) (capacity u stamp : ℕ) (e : Kind) (ss : List Sent) (outlets : List OutletView) (inlets : List InletView)
    → IsCore v last a capacity → 0 < a.reserved → length ss ≤ 17 → Does a.config a.cluster e v z ss → AreSized a.config a.cluster z → stamp ≡ next_stamp last (stamp_of (taken a.cluster u e))
    → Sends a.config.top.clusters stamp ss a.outlets outlets
    → length inlets ≡ length a.inlets
    → ((received : List Packet) → (AreOfClass a.config.top.clusters a.inlets → Brought a.config.top.clusters a.cluster received a.inlets) → AreOfClass a.config.top.clusters inlets → Brought a.config.top.clusters a.cluster (received ++ taken a.cluster u e) inlets)
    → ((received : List Packet) → NoneBeyond a.config.top.clusters received → NoneBeyond a.config.top.clusters (received ++ taken a.cluster u e))
    → IsCore z stamp (record a { log = a.log ++ event_at a.cluster stamp e ∷ []; outlets = outlets; inlets = inlets; reserved = a.reserved - 1; weight = weight_left a.config a.cluster z }) capacity
core_more v z last a capacity u stamp e ss outlets inlets k some few does sized is sends count brings sourced = record {
  sent = k.sent ++ map (packet stamp a.cluster) ss;
  received = k.received ++ taken a.cluster u e;
  local = local_more a.config a.cluster v z a.log last k.sent k.received e ss stamp u k.local does is;
  weight = refl;
  carry = carry_more a.config.top.clusters a.cluster stamp k.sent ss a.outlets outlets k.carry sends;
  brought = brings k.received k.brought;
  sources = sourced k.received k.sources;
  sized = sized;
  mine = k.mine;
  outlets = sends.count ∙ k.outlets;
  inlets = count ∙ k.inlets;
  spare = spare_left a.reserved a.config.top.clusters stamp ss a.outlets outlets some few sends k.spare;
  room = let r = k.room in let l = length-append a.log (event_at a.cluster stamp e ∷ []) in grind arith;
  short = let s = k.short in let l = length-append a.log (event_at a.cluster stamp e ∷ []) in grind arith;
}

-- only a choice to take a message takes one
pub none_taken : (w : Config) (c u : ℕ) (x : Choice) (e : Kind) → is_take x ≡ false → IsOf w c x e → taken c u e ≡ []
none_taken w c u (choice.Take f k) e own is = absurd (cc)
none_taken w c u x (kind.Free f a) own is = absurd (not_free x own is)
  where
    not_free : (x : Choice) → is_take x ≡ false → IsOf w c x (kind.Free f a) → ⊥
    not_free (choice.Step k) own is = is
    not_free (choice.Take g j) own is = absurd (cc)
    not_free x own is = is
none_taken w c u x (kind.Take f m) own is = absurd (not_take x own is)
  where
    not_take : (x : Choice) → is_take x ≡ false → IsOf w c x (kind.Take f m) → ⊥
    not_take (choice.Step k) own is = is
    not_take (choice.Take g j) own is = absurd (cc)
    not_take x own is = is
none_taken w c u x e own is = refl

-- the stamp that code computes
pub stamp_is : (n r : ℕ) → r ≡ min (n + 1) 18446744073709551615 → n ≤ 18446744073709551615 → r ≡ next_stamp n 0
stamp_is n r is fits = by_test (nat_lt n most) refl
  where
    by_test : (b : Bool) → nat_lt n most ≡ b → r ≡ next_stamp n 0
    by_test true e = let low : n < most = grind (arith, nat_tests) in let m : max n 0 ≡ n = grind arith in is ∙ (let f : min (n + 1) 18446744073709551615 ≡ n + 1 = grind arith in f) ∙ sym (ap (raised most) m ∙ ap (λ i. cond i (n + 1) n) e)
    by_test false e = let high : most ≤ n = grind (arith, nat_tests) in let m : max n 0 ≡ n = grind arith in is ∙ (let f : min (n + 1) 18446744073709551615 ≡ n = grind arith in f) ∙ sym (ap (raised most) m ∙ ap (λ i. cond i (n + 1) n) e)

pub stamp_with : (n u m r : ℕ) → m ≡ max n u → r ≡ min (m + 1) 18446744073709551615 → m ≤ 18446744073709551615 → r ≡ next_stamp n u
stamp_with n u m r max_is is fits = stamp_is m r is fits ∙ ap (raised most) (let e : max m 0 ≡ m = grind arith in e ∙ max_is)

-- ends that were lent as a slice come back
pub ends_back : {X Z : Type 0} (v : Vec X Z) (lent ws : List X) → length lent ≡ v.len → length ws ≡ length lent → (with_items v ws).items ≡ ws
ends_back v lent ws len count = with_items_is v ws (count ∙ len)

one_message : (s : Option Sent) → length (option_to_list s) ≤ 17
one_message None = grind arith
one_message (Some s) = grind arith

-- a choice that takes no message, done
pub acted : {Z : Type 0} (v z : PartsView) (last : ℕ) (a : CoreView) (capacity room stamp : ℕ) (x : Choice) (e : Kind) (s : Option Sent) (log : List Event) (vec : Vec OutletView Z) (lent outlets : List OutletView)
    → IsCore v last a capacity → 0 < a.reserved → is_take x ≡ false → last ≤ 18446744073709551615 → DoesChoice a.config a.cluster x e v z (option_to_list s) → AreSized a.config a.cluster z
    → stamp ≡ min (last + 1) 18446744073709551615 → lent ≡ a.outlets → length lent ≡ vec.len → Sends a.config.top.clusters stamp (option_to_list s) lent outlets
    → log ≡ a.log ++ event_at a.cluster stamp e ∷ [] → room ≡ capacity
    → IsCore z stamp (record a { log = log; outlets = (with_items vec outlets).items; reserved = a.reserved - 1; weight = weight_left a.config a.cluster z }) room
acted v z last a capacity room stamp x e s log vec lent outlets k some own fits does sized is lent_is len sends log_is room_is =
    let none : taken a.cluster 0 e ≡ [] = none_taken a.config a.cluster 0 x e own does.is_of in
    rw (log_is, room_is, ends_back vec lent outlets len sends.count)
    (core_more v z last a capacity 0 stamp e (option_to_list s) outlets a.inlets k some (one_message s) does.does sized (stamp_is last stamp is fits ∙ ap (λ ps. next_stamp last (stamp_of ps)) (sym none))
    (subst (λ os. Sends a.config.top.clusters stamp (option_to_list s) os outlets) lent_is sends) refl
    (λ received before honest. subst (λ ps. Brought a.config.top.clusters a.cluster ps a.inlets) (sym (ap (λ ps. received ++ ps) none ∙ append-nil received)) (before honest))
    (λ received before. subst (NoneBeyond a.config.top.clusters) (sym (ap (λ ps. received ++ ps) none ∙ append-nil received)) before))

-- and what happened
pub happened : {Z : Type 0} (v z : PartsView) (a : CoreView) (stamp : ℕ) (x : Choice) (e : Kind) (ss : List Sent) (log : List Event) (vec : Vec OutletView Z) (lent outlets : List OutletView) (inlets : List InletView) (weight : ℕ)
    → DoesChoice a.config a.cluster x e v z ss → lent ≡ a.outlets → length lent ≡ vec.len → Sends a.config.top.clusters stamp ss lent outlets → log ≡ a.log ++ event_at a.cluster stamp e ∷ []
    → Happened x a (record a { log = log; outlets = (with_items vec outlets).items; inlets = inlets; reserved = a.reserved - 1; weight = weight })
happened v z a stamp x e ss log vec lent outlets inlets weight does lent_is len sends log_is = record {
  event = e;
  stamp = stamp;
  is_of = does.is_of;
  log = log_is;
  config = refl;
  cluster = refl;
  reserved = refl;
  outlets = subst (SameOutlets a.outlets) (sym (ends_back vec lent outlets len sends.count)) (subst (λ os. SameOutlets os outlets) lent_is (sends.count, sends.lanes));
}

-- the next message of a lane, taken
pub took : {Y Z : Type 0} (v z : PartsView) (last : ℕ) (a : CoreView) (capacity room stamp later at : ℕ) (from : ClusterId) (j : Class) (q : Parcel) (e : Kind) (ss : List Sent) (log : List Event) (vec : Vec OutletView Z) (lent outlets : List OutletView) (inlets : List InletView) (ins : Vec InletView Y) (borrowed : List InletView)
    → IsCore v last a capacity → 0 < a.reserved → from.0 < a.config.top.clusters → later ≤ 18446744073709551615 → Took a.config a.cluster from q.msg v z e ss → AreSized a.config a.cluster z → length ss ≤ 17
    → later ≡ max last q.stamp → stamp ≡ min (later + 1) 18446744073709551615 → lent ≡ a.outlets → length lent ≡ vec.len → Sends a.config.top.clusters stamp ss lent outlets
    → borrowed ≡ a.inlets → length borrowed ≡ ins.len → at ≡ place from.0 j → OthersStay at borrowed inlets
    → ((x : InletView) → (slice_index_or inlets at x).received ≡ (slice_index_or borrowed at x).received ++ q ∷ [])
    → log ≡ a.log ++ event_at a.cluster stamp e ∷ [] → room ≡ capacity
    → IsCore z stamp (record a { log = log; outlets = (with_items vec outlets).items; inlets = (with_items ins inlets).items; reserved = a.reserved - 1; weight = weight_left a.config a.cluster z }) room
took v z last a capacity room stamp later at from j q e ss log vec lent outlets inlets ins borrowed k some low fits does sized few later_is is lent_is len sends borrowed_is count at_is others got log_is room_is =
    let stay : OthersStay (place from.0 j) a.inlets inlets = subst (λ n. OthersStay n a.inlets inlets) at_is (subst (λ os. OthersStay at os inlets) borrowed_is others) in
    let came : (x : InletView) → (slice_index_or inlets (place from.0 j) x).received ≡ (slice_index_or a.inlets (place from.0 j) x).received ++ q ∷ [] = λ x. subst (λ n. (slice_index_or inlets n x).received ≡ (slice_index_or a.inlets n x).received ++ q ∷ []) at_is (subst (λ os. (slice_index_or inlets at x).received ≡ (slice_index_or os at x).received ++ q ∷ []) borrowed_is (got x)) in
    rw (log_is, room_is, ends_back vec lent outlets len sends.count, ends_back ins borrowed inlets count others.count)
    (core_more v z last a capacity q.stamp stamp e ss outlets inlets k some few does.does.does sized (stamp_with last q.stamp later stamp later_is is fits ∙ ap (λ ps. next_stamp last (stamp_of ps)) (sym (does.takes q.stamp)))
    (subst (λ os. Sends a.config.top.clusters stamp ss os outlets) lent_is sends) stay.count
    (λ received before honest. subst (λ ps. Brought a.config.top.clusters a.cluster ps inlets) (sym (ap (λ ps. received ++ ps) (does.takes q.stamp))) (brought_more a.config.top.clusters a.cluster from j q received a.inlets inlets low came stay before honest))
    (λ received before. subst (NoneBeyond a.config.top.clusters) (sym (ap (λ ps. received ++ ps) (does.takes q.stamp))) (none_beyond_more a.config.top.clusters a.cluster from.0 q.stamp q.msg received low before)))

-- what a lane that showed none leaves
pub none_shown : {Y : Type 0} (v : PartsView) (last : ℕ) (a : CoreView) (capacity at : ℕ) (from : ClusterId) (j : Class) (inlets : List InletView) (ins : Vec InletView Y) (borrowed : List InletView)
    → IsCore v last a capacity → borrowed ≡ a.inlets → length borrowed ≡ ins.len → at ≡ place from.0 j → OthersStay at borrowed inlets
    → ((x : InletView) → (slice_index_or inlets at x).received ≡ (slice_index_or borrowed at x).received)
    → IsCore v last (record a { inlets = (with_items ins inlets).items; reserved = a.reserved - 1 }) capacity
none_shown v last a capacity at from j inlets ins borrowed k borrowed_is count at_is others same =
    rw (ends_back ins borrowed inlets count others.count)
    (core_kept v last a capacity (a.reserved - 1) inlets k (let e : a.reserved - 1 ≤ a.reserved = grind arith in e) (others.count ∙ ap (λ (xs : List InletView). length xs) borrowed_is)
    (λ i x. at_or_not (λ n. (slice_index_or inlets n x).received ≡ (slice_index_or a.inlets n x).received) at i (at == i) refl (same x ∙ ap (λ os. (slice_index_or os at x).received) borrowed_is) (λ far. ap (λ (y : InletView). y.received) (others.others i x (λ e. far (sym e)) ∙ ap (λ os. slice_index_or os i x) borrowed_is))))

-- and what happened then
pub received : {Y Z : Type 0} (v z : PartsView) (a : CoreView) (stamp at : ℕ) (from : ClusterId) (j : Class) (q : Parcel) (e : Kind) (ss : List Sent) (log : List Event) (vec : Vec OutletView Z) (lent outlets : List OutletView) (inlets : List InletView) (ins : Vec InletView Y) (borrowed : List InletView) (weight : ℕ)
    → Took a.config a.cluster from q.msg v z e ss → lent ≡ a.outlets → length lent ≡ vec.len → Sends a.config.top.clusters stamp ss lent outlets
    → borrowed ≡ a.inlets → length borrowed ≡ ins.len → at ≡ place from.0 j → OthersStay at borrowed inlets
    → ((x : InletView) → (slice_index_or inlets at x).received ≡ (slice_index_or borrowed at x).received ++ q ∷ [])
    → ((x : InletView) → IsPrefix (slice_index_or borrowed at x).known (q ∷ (slice_index_or inlets at x).known))
    → log ≡ a.log ++ event_at a.cluster stamp e ∷ []
    → Received from j a (record a { log = log; outlets = (with_items vec outlets).items; inlets = (with_items ins inlets).items; reserved = a.reserved - 1; weight = weight })
unfolding happened
received v z a stamp at from j q e ss log vec lent outlets inlets ins borrowed weight does lent_is len sends borrowed_is count at_is others got next log_is =
    let back : (with_items ins inlets).items ≡ inlets = ends_back ins borrowed inlets count others.count in
    record {
      got = q;
      happened = happened v z a stamp (choice.Take from (class_of q.msg)) e ss log vec lent outlets (with_items ins inlets).items weight does.does lent_is len sends log_is;
      takes = does.takes q.stamp;
      next = λ x. subst (λ os. IsPrefix (slice_index_or a.inlets (place from.0 j) x).known (q ∷ (slice_index_or os (place from.0 j) x).known)) (sym back)
          (subst (λ n. IsPrefix (slice_index_or a.inlets n x).known (q ∷ (slice_index_or inlets n x).known)) at_is (subst (λ os. IsPrefix (slice_index_or os at x).known (q ∷ (slice_index_or inlets at x).known)) borrowed_is (next x)));
      received = λ x. subst (λ os. (slice_index_or os (place from.0 j) x).received ≡ (slice_index_or a.inlets (place from.0 j) x).received ++ q ∷ []) (sym back)
          (subst (λ n. (slice_index_or inlets n x).received ≡ (slice_index_or a.inlets n x).received ++ q ∷ []) at_is (subst (λ os. (slice_index_or inlets at x).received ≡ (slice_index_or os at x).received ++ q ∷ []) borrowed_is (got x)));
      others = subst (OthersStay (place from.0 j) a.inlets) (sym back) (subst (λ n. OthersStay n a.inlets inlets) at_is (subst (λ os. OthersStay at os inlets) borrowed_is others));
    }

-- a hart as the parts have it is the hart of the part
pub hart_is : (v : PartsView) (last : ℕ) (a : CoreView) (capacity n : ℕ) (x : Local) (p : Part) → IsCore v last a capacity → n < a.config.top.harts → x ≡ slice_index_or v.locals n x → IsAt a p
    → ((p.harts (hart_at a.config a.cluster n)).core ≡ x.core) × ((p.harts (hart_at a.config a.cluster n)).asked ≡ x.asked)
hart_is v last a capacity n x p k low is at =
    let s = (shows_at v last a capacity p k at).harts n x low in
    (s.core ∙ ap (λ (y : Local). y.core) (sym is), s.asked ∙ ap (λ (y : Local). y.asked) (sym is))

-- no parcels are of no packets
no_parcels : (a b : ℕ) (k : Class) → parcels a b k [] ≡ []
unfolding lane
no_parcels a b k = refl

-- no packets are from beyond n clusters
none_beyond : (n : ℕ) → NoneBeyond n []
unfolding lane
none_beyond n f b k high = refl

-- a place among the ends of n clusters
within : (n d : ℕ) (k : Class) → d < n → place d k < 2 * n
within n d Request low = grind arith
within n d Reply low = grind arith

-- a run that has not begun sent and took nothing
sent_none : (w : Config) (c : ℕ) → sent_in w c (opening_part w) [] ≡ []
unfolding sent_in
sent_none w c = refl

received_none : (c : ℕ) → received_in c [] ≡ []
unfolding received_in
received_none c = refl

-- a core at the start
pub opened : (w : Config) (c : ℕ) (v : PartsView) (outlets : List OutletView) (inlets : List InletView) (log : List Event) (capacity : ℕ) → c < w.top.clusters → IsOpening w c v
    → length outlets ≡ 2 * w.top.clusters → length inlets ≡ 2 * w.top.clusters
    → ((j : ℕ) (x : OutletView) → j < length outlets → (slice_index_or outlets j x).sent ≡ []) → ((j : ℕ) (x : InletView) → j < length inlets → (slice_index_or inlets j x).received ≡ [])
    → log ≡ []
    → IsCore v 0 (record { config = w; cluster = c; log = log; outlets = outlets; inlets = inlets; reserved = 0; weight = weight_left w c v }) capacity
opened w c v outlets inlets log capacity mine opening count_out count_in unsent untaken log_is = rw log_is (record {
  sent = [];
  received = [];
  local = record { history = []; events = refl; ran = tt; shows = opening_shows w c v opening; last_is = refl; sent_is = sent_none w c; received_is = received_none c };
  weight = refl;
  carry = λ d k x low. unsent (place d k) x (subst (λ n. place d k < n) (sym count_out) (within w.top.clusters d k low)) ∙ sym (no_parcels c d k);
  brought = λ honest f k x low. untaken (place f k) x (subst (λ n. place f k < n) (sym count_in) (within w.top.clusters f k low)) ∙ sym (no_parcels f c k);
  sources = none_beyond w.top.clusters;
  sized = opening_sized w c v opening;
  mine = mine;
  outlets = count_out;
  inlets = count_in;
  spare = λ j x low. grind arith;
  room = grind arith;
  short = grind arith;
})
