-- Settling lowers the weight of what is on its way and left, and where none has anything to do nothing is on its way.
use Rattle.std.proofs.Common.{◌≡◌, ◌⊎◌, ℕ, zero, suc, ◌+◌, ◌*◌, ◌<◌, ◌≤◌, ◌==◌, ◌&&◌, Bool, true, false, IsTrue, IsFalse, Option, None, Some, List, [], ◌∷◌, ◌++◌, length, slice_get, slice_index_or, slice_set, unwrap_or, refl, sym, ap, ap₂, ◌∙◌, subst, inl, inr, arith}
use Rattle.std.proofs.lemmas.Bool.Decides.{nat_tests}
use Rattle.std.proofs.lemmas.List.{append-nil, get_or-set_same, get_or_default}
use Rattle.std.proofs.lemmas.Option.{unwrap_or-slice_get, slice_get-get_or}
use mathlib.Core.List.{IsPrefix}
use Rattle.dash_base.specs.declared.topology.Topology.{Topology}
use Rattle.dash_msg.specs.declared.classes.Class.{Class}
use Rattle.dash_msg.specs.declared.classes.Class.TheVariants.{Request, Reply}
use Rattle.dash_msg.specs.declared.parcel.Parcel.{Parcel}
use Rattle.mesh_lanes.specs.View.{OutletView, InletView}
use Rattle.dash_model.specs.Maps.{total}
use Rattle.dash_model.specs.Config.{Config, cluster_id}
use Rattle.dash_model.specs.Part.{opening_part}
use Rattle.dash_model.specs.LocalRun.{part_at}
use Rattle.dash_model.proofs.LawsOffered.{total_same, total_le, total_add, total_swap, total_none, last_or_below}
use Rattle.unit_rows.specs.declared.choice.Choice.TheVariants.{Take}
use Rattle.cluster_unit.specs.declared.turn.Turn.{Turn}
use Rattle.cluster_unit.specs.declared.turn.Turn.TheVariants.{Did, Idle}
use Rattle.cluster_unit.specs.View.{CoreView}
use Rattle.cluster_unit.specs.Ends.{place, knows}
use Rattle.cluster_unit.specs.Core.{HasRun, IsAt}
use Rattle.cluster_unit.specs.Turns.{spent}
use Rattle.cluster_unit.specs.Reserving.{Reserved}
use Rattle.cluster_unit.specs.Settling.{Settles}
use Rattle.cluster_unit.specs.Serial.{Stepped}
use Rattle.cluster_unit.specs.Picking.{steps_after, ahead_after}
use Rattle.cluster_unit.specs.Weight.{parcels_weight, sent_weight, received_weight, went_to, came_from, went_out, came_in, IsLighter}
use Rattle.cluster_unit.proofs.LawsOffered.{parcels_more, went_same, came_same}
use Rattle.round_run.specs.Units.{UnitView, IsSame, HasCounts, OnlyMet, IsShown, ShowsNone, NoneToGrant, Each, IsMesh, HaveMet, AllHaveMet, AreEmptied, NoneGrants}
use Rattle.round_run.specs.Weight.{IsNoHeavier, IsEased, Rests, SettledBy, is_idle, given_by, taken_by, given, received, weight_among, OneSettled, AllSettledBy}
use Rattle.round_run.proofs.Eaches.{each_again, each_then, each_at, each_weaker, counts_again, counts_then, known_again, met_again, met_then, met_counts, counts_same, mesh_stays}
use Rattle.round_run.proofs.MetUnits.{emptied_stays}
use Rattle.round_run.proofs.Kept.{uses_spent, same_reserved, none_granted, uses_settles, upto, both}

-- one core, by steps
heavier_again : (a : CoreView) → IsNoHeavier a a
heavier_again a = omega arith

heavier_then : (a b c : CoreView) → b.config ≡ a.config → IsNoHeavier a b → IsNoHeavier b c → IsNoHeavier a c
heavier_then a b c same f g =
    let n = a.config.top.clusters in
    let h : went_out n c.outlets + c.weight + came_in n b.inlets ≤ went_out n b.outlets + b.weight + came_in n c.inlets
    = subst (λ (w : Config). went_out w.top.clusters c.outlets + c.weight + came_in w.top.clusters b.inlets ≤ went_out w.top.clusters b.outlets + b.weight + came_in w.top.clusters c.inlets) same g in
    omega arith

pub lighter_then : (a b c : CoreView) → b.config ≡ a.config → IsLighter a b → IsNoHeavier b c → IsLighter a c
lighter_then a b c same f g =
    let n = a.config.top.clusters in
    let h : went_out n c.outlets + c.weight + came_in n b.inlets ≤ went_out n b.outlets + b.weight + came_in n c.inlets
    = subst (λ (w : Config). went_out w.top.clusters c.outlets + c.weight + came_in w.top.clusters b.inlets ≤ went_out w.top.clusters b.outlets + b.weight + came_in w.top.clusters c.inlets) same g in
    omega arith

pub then_lighter : (a b c : CoreView) → b.config ≡ a.config → IsNoHeavier a b → IsLighter b c → IsLighter a c
then_lighter a b c same f g =
    let n = a.config.top.clusters in
    let h : went_out n c.outlets + c.weight + came_in n b.inlets < went_out n b.outlets + b.weight + came_in n c.inlets
    = subst (λ (w : Config). went_out w.top.clusters c.outlets + c.weight + came_in w.top.clusters b.inlets < went_out w.top.clusters b.outlets + b.weight + came_in w.top.clusters c.inlets) same g in
    omega arith

pub eased_again : (a : UnitView) → IsEased a a
eased_again a = record { counts = counts_again a; weight = heavier_again a.core }

pub eased_then : (a b c : UnitView) → IsEased a b → IsEased b c → IsEased a c
eased_then a b c f g = record { counts = counts_then a b c f.counts g.counts; weight = heavier_then a.core b.core c.core f.counts.same.config f.weight g.weight }

-- what only met weighs the same
met_weight : (n : ℕ) (a b : UnitView) → OnlyMet a b → went_out n b.core.outlets + b.core.weight ≡ went_out n a.core.outlets + a.core.weight
met_weight n a b m = ap₂ (λ x y. x + y) (went_same n a.core.outlets b.core.outlets m.outlets m.sent) m.weight

met_came : (n : ℕ) (a b : UnitView) → OnlyMet a b → came_in n b.core.inlets ≡ came_in n a.core.inlets
met_came n a b m = came_same n a.core.inlets b.core.inlets m.inlets m.received

met_eased : (a b : UnitView) → OnlyMet a b → IsEased a b
met_eased a b m = record {
  counts = m.counts;
  weight = let x = met_weight a.core.config.top.clusters a b m in let y = met_came a.core.config.top.clusters a b m in omega arith;
}

-- memory that was taken
pub met_reserved : (a b : UnitView) → Reserved a.core b.core → b.turns ≡ a.turns → b.steps ≡ a.steps → b.ahead ≡ a.ahead → OnlyMet a b
met_reserved a b r turns steps ahead = record {
  counts = record { same = same_reserved a.core b.core r; turns = turns; steps = steps; ahead = ahead };
  log = r.log;
  weight = r.weight;
  outlets = r.outlets.count;
  inlets = ap (λ (l : List InletView). length l) r.inlets;
  sent = λ j x. ap (λ (z : OutletView). z.sent) (r.outlets.others j x);
  received = λ j x. ap (λ l. (slice_index_or l j x).received) r.inlets;
  known = λ j x. subst (λ l. IsPrefix (slice_index_or a.core.inlets j x).known (slice_index_or l j x).known) (sym r.inlets) (known_again (slice_index_or a.core.inlets j x));
}

-- a step that was none leaves all but a turn
met_idle : (a b : UnitView) → Settles Idle a.core b.core → b.turns ≡ a.turns → b.steps ≡ a.steps → b.ahead ≡ a.ahead → OnlyMet a b
met_idle a b h turns steps ahead =
    let now : b.core ≡ spent h.seen = h.settled.1 in
    record {
      counts = record { same = (uses_settles Idle a.core b.core h).same; turns = turns; steps = steps; ahead = ahead };
      log = ap (λ (z : CoreView). z.log) now ∙ ap (λ (z : CoreView). z.log) h.same;
      weight = ap (λ (z : CoreView). z.weight) now ∙ ap (λ (z : CoreView). z.weight) h.same;
      outlets = ap (λ (z : CoreView). length z.outlets) now ∙ ap (λ (z : CoreView). length z.outlets) h.same;
      inlets = ap (λ (z : CoreView). length z.inlets) now ∙ h.looked.count;
      sent = λ j x. ap (λ (z : CoreView). (slice_index_or z.outlets j x).sent) now ∙ ap (λ (z : CoreView). (slice_index_or z.outlets j x).sent) h.same;
      received = λ j x. ap (λ (z : CoreView). (slice_index_or z.inlets j x).received) now ∙ h.looked.received j x;
      known = λ j x. subst (λ (z : CoreView). IsPrefix (slice_index_or a.core.inlets j x).known (slice_index_or z.inlets j x).known) (sym now) (h.looked.known j x);
    }

-- and then no lane shows a message
none_known : (xs : List InletView) (j : ℕ) (y : InletView) → j < length xs → knows (slice_get xs j) ≡ false → (slice_index_or xs j y).known ≡ []
none_known [] j y low e = absurd (omega arith)
none_known (x ∷ xs) zero y low e = by_list x.known e
  where
    by_list : (l : List Parcel) → knows (Some (record x { known = l })) ≡ false → l ≡ []
    by_list [] e = refl
    by_list (q ∷ qs) e = absurd (let low : 0 < suc (length qs) = omega arith in grind (arith, nat_tests))
none_known (x ∷ xs) (suc j) y low e = none_known xs j y (omega arith) e

place_low : (d n m : ℕ) (k : Class) → m ≡ 2 * n → d < n → place d k < m
place_low d n m Request e low = omega arith
place_low d n m Reply e low = omega arith

shows_none : (a b : CoreView) → HasRun a → Settles Idle a b → ShowsNone b
shows_none a b run h f k y low =
    let now : b ≡ spent h.seen = h.settled.1 in
    let config_is : b.config ≡ a.config = ap (λ (z : CoreView). z.config) now ∙ ap (λ (z : CoreView). z.config) h.same in
    let below : f < a.config.top.clusters = subst (λ (w : Config). f < w.top.clusters) config_is low in
    let p = part_at a.config a.cluster (opening_part a.config) run.history in
    let at : IsAt h.seen p = subst (λ z. IsAt z p) (sym h.same) (record { history = run.history; events = run.events; ran = run.ran; part = refl }) in
    let there : place f k < length h.seen.inlets = place_low f a.config.top.clusters (length h.seen.inlets) k (h.looked.count ∙ run.inlets) below in
    ap (λ (z : CoreView). (slice_index_or z.inlets (place f k) y).known) now ∙ none_known h.seen.inlets (place f k) y there (not_known (knows (slice_get h.seen.inlets (place f k))) refl at below)
  where
    not_known : (i : Bool) → knows (slice_get h.seen.inlets (place f k)) ≡ i → IsAt h.seen (part_at a.config a.cluster (opening_part a.config) run.history) → f < a.config.top.clusters → i ≡ false
    not_known false e at below = refl
    not_known true e at below = absurd (h.settled.0 (Take (cluster_id f) k) (part_at a.config a.cluster (opening_part a.config) run.history) at (record { low = subst (λ (z : CoreView). f < z.config.top.clusters) (sym h.same) below; some = e }) tt)

-- a step of a unit for which memory was taken
turned : (t : Turn) (a b : UnitView) → Settles t a.core b.core → (t ≡ Did → IsLighter a.core b.core) → b.turns ≡ a.turns → b.steps ≡ a.steps → b.ahead ≡ a.ahead → IsEased a b
turned Did a b h less turns steps ahead = record { counts = record { same = (uses_settles Did a.core b.core h).same; turns = turns; steps = steps; ahead = ahead }; weight = let l = less refl in omega arith }
turned Idle a b h less turns steps ahead = met_eased a b (met_idle a b h turns steps ahead)

pub once_eased : (t : Turn) (a r b : UnitView) → OnlyMet a r → Settles t r.core b.core → (t ≡ Did → IsLighter r.core b.core) → b.turns ≡ r.turns → b.steps ≡ r.steps → b.ahead ≡ r.ahead → IsEased a b
once_eased t a r b m h less turns steps ahead = eased_then a r b (met_eased a r m) (turned t r b h less turns steps ahead)

pub eased_reserved : (a r : UnitView) → OnlyMet a r → IsEased a r
eased_reserved a r m = met_eased a r m

pub once_settled : (t : Turn) (a r b : UnitView) → OnlyMet a r → HasRun r.core → Settles t r.core b.core → (t ≡ Did → IsLighter r.core b.core) → b.turns ≡ r.turns → b.steps ≡ r.steps → b.ahead ≡ r.ahead → SettledBy (is_idle t) a b
once_settled Did a r b m run h less turns steps ahead = record { did = λ _. then_lighter a.core r.core b.core m.counts.same.config (met_eased a r m).weight (less refl); rests = λ no. absurd (cc) }
once_settled Idle a r b m run h less turns steps ahead = record {
  did = λ no. absurd (cc);
  rests = λ _. record { same = met_then a r b m (met_idle r b h turns steps ahead); granted = none_granted r.core b.core h; shows = shows_none r.core b.core run h };
}

-- a hart's step alone that was none
met_spent : (a b : UnitView) → b.core ≡ spent a.core → b.turns ≡ a.turns → b.steps ≡ a.steps → b.ahead ≡ a.ahead → OnlyMet a b
met_spent a b now turns steps ahead = record {
  counts = record { same = (uses_spent a.core b.core now).same; turns = turns; steps = steps; ahead = ahead };
  log = ap (λ (z : CoreView). z.log) now;
  weight = ap (λ (z : CoreView). z.weight) now;
  outlets = ap (λ (z : CoreView). length z.outlets) now;
  inlets = ap (λ (z : CoreView). length z.inlets) now;
  sent = λ j x. ap (λ (z : CoreView). (slice_index_or z.outlets j x).sent) now;
  received = λ j x. ap (λ (z : CoreView). (slice_index_or z.inlets j x).received) now;
  known = λ j x. subst (λ (z : CoreView). IsPrefix (slice_index_or a.core.inlets j x).known (slice_index_or z.inlets j x).known) (sym now) (known_again (slice_index_or a.core.inlets j x));
}

pub idle_met : (k : ℕ) (t : Turn) (a r b : UnitView) → OnlyMet a r → Stepped k t r.core b.core → b.turns ≡ r.turns → b.steps ≡ steps_after t r.steps → b.ahead ≡ ahead_after t r.core.config.top.harts r.turns b.steps r.ahead → t ≡ Idle → OnlyMet a b
idle_met k Did a r b m h turns steps ahead e = absurd (cc)
idle_met k Idle a r b m h turns steps ahead e = met_then a r b m (met_spent r b h.1 turns steps ahead)

-- sums over all units
total_falls : (f g h k : ℕ → ℕ) (n : ℕ) → ((i : ℕ) → i < n → f i + g i ≤ h i + k i) → total f n + total g n ≤ total h n + total k n
total_falls f g h k n each =
    let a = total_add f g n in
    let b = total_add h k n in
    let c = total_le (λ i. f i + g i) (λ i. h i + k i) n each in
    omega arith

falls_last : (f g h k : ℕ → ℕ) (j n : ℕ) → ((i : ℕ) → i < suc n → f i + g i ≤ h i + k i) → f j + g j < h j + k j → (j < n → total f n + total g n < total h n + total k n) → (j ≡ n) ⊎ (j < n)
    → f n + total f n + (g n + total g n) < h n + total h n + (k n + total k n)
falls_last f g h k j n each less more (inl e) =
    let here : f n + g n < h n + k n = subst (λ i. f i + g i < h i + k i) e less in
    let rest = total_falls f g h k n (λ i l. each i (omega (arith, l))) in
    omega arith
falls_last f g h k j n each less more (inr below) =
    let here = each n (omega arith) in
    let rest = more below in
    omega arith

total_falls_once : (f g h k : ℕ → ℕ) (j n : ℕ) → j < n → ((i : ℕ) → i < n → f i + g i ≤ h i + k i) → f j + g j < h j + k j → total f n + total g n < total h n + total k n
unfolding total
total_falls_once f g h k j zero low each less = absurd (omega (arith, low))
total_falls_once f g h k j (suc n) low each less = falls_last f g h k j n each less (λ below. total_falls_once f g h k j n below (λ i l. each i (omega (arith, l))) less) (last_or_below j n low)

-- a lane whose ends met brought no more than went into it
default_is : {X : Type 0} (xs : List X) (j : ℕ) (d : X) (o : Option X) → slice_get xs j ≡ o → slice_index_or xs j d ≡ unwrap_or o d
default_is xs j d o e = sym (unwrap_or-slice_get xs j d) ∙ ap (λ y. unwrap_or y d) e

begins_le : (n : ℕ) (xs rest ys : List Parcel) → xs ++ rest ≡ ys → parcels_weight n xs ≤ parcels_weight n ys
begins_le n xs rest ys e = let a = parcels_more n xs rest in let b = ap (parcels_weight n) e in omega arith

lane_le : (n j i : ℕ) (os : List OutletView) (is : List InletView) → ((x : OutletView) (y : InletView) → IsShown (slice_index_or os j x) (slice_index_or is i y)) → received_weight n (slice_get is i) ≤ sent_weight n (slice_get os j)
unfolding parcels_weight
lane_le n j i os is shown = by_ends (slice_get os j) (slice_get is i) refl refl
  where
    by_ends : (o : Option OutletView) (r : Option InletView) → slice_get os j ≡ o → slice_get is i ≡ r → received_weight n r ≤ sent_weight n o
    by_ends o None e f = omega arith
    by_ends (Some o) (Some r) e f =
        let s = shown o r in
        begins_le n r.received s.rest o.sent (ap (λ (z : InletView). z.received ++ s.rest) (sym (default_is is i r (Some r) f)) ∙ s.begins ∙ ap (λ (z : OutletView). z.sent) (default_is os j o (Some o) e))
    by_ends None (Some r) e f =
        let none : OutletView = record { lane = r.lane; sent = []; spool = []; free = 0; spare = 0 } in
        let s = shown none r in
        begins_le n r.received s.rest [] (ap (λ (z : InletView). z.received ++ s.rest) (sym (default_is is i r (Some r) f)) ∙ s.begins ∙ ap (λ (z : OutletView). z.sent) (default_is os j none None e))

module _ {U : Type 0} (view : U → UnitView) where
  -- the unit at a place
  unit_at : (us : List U) (c : ℕ) → c < length us → (d : U) × (slice_get us c ≡ Some (slice_index_or us c d))
  unit_at [] c low = absurd (omega arith)
  unit_at (u ∷ us) zero low = (u, refl)
  unit_at (u ∷ us) (suc c) low = unit_at us c (omega arith)

  -- what went between two units, and came
  abbrev went_by : ℕ → Option U → ℕ → ℕ
  went_by n None d = 0
  went_by n (Some u) d = went_to n (view u).core.outlets d

  abbrev came_by : ℕ → Option U → ℕ → ℕ
  came_by n None f = 0
  came_by n (Some u) f = came_from n (view u).core.inlets f

  went_all : (n : ℕ) (o : Option U) → total (went_by n o) n ≤ given_by view n o
  unfolding went_out
  went_all n None = let none = total_none (λ d. 0) n (λ i l. refl) in omega arith
  went_all n (Some u) = omega arith

  came_all : (n : ℕ) (o : Option U) → taken_by view n o ≡ total (came_by n o) n
  unfolding came_in
  came_all n None = sym (total_none (λ d. 0) n (λ i l. refl))
  came_all n (Some u) = refl

  pair_le : (us : List U) (n a b : ℕ) → a < length us → b < length us → HaveMet view us a b → came_by n (slice_get us b) a ≤ went_by n (slice_get us a) b
  pair_le us n a b low below met =
      let x = unit_at us a low in
      let y = unit_at us b below in
      let u = slice_index_or us a x.0 in
      let v = slice_index_or us b y.0 in
      let asked = lane_le n (place b Request) (place a Request) (view u).core.outlets (view v).core.inlets (λ o i. met Request x.0 y.0 o i) in
      let answered = lane_le n (place b Reply) (place a Reply) (view u).core.outlets (view v).core.inlets (λ o i. met Reply x.0 y.0 o i) in
      subst (λ o. came_by n o a ≤ went_by n (slice_get us a) b) (sym y.1) (subst (λ o. came_by n (Some v) a ≤ went_by n o b) (sym x.1) (omega arith))

  -- where all ends met no more was received than given
  received_le : (us : List U) (n : ℕ) → length us ≡ n → AllHaveMet view us → received view n us ≤ given view n us
  unfolding given received
  received_le us n count met =
      let low : (i : ℕ) → i < length us → i < n = λ i l. subst (λ m. i < m) count l in
      let up : (i : ℕ) → i < n → i < length us = λ i l. subst (λ m. i < m) (sym count) l in
      let came = total_same (λ c. taken_by view n (slice_get us c)) (λ c. total (came_by n (slice_get us c)) n) (length us) (λ c l. came_all n (slice_get us c)) in
      let less = total_le (λ c. total (came_by n (slice_get us c)) n) (λ c. total (λ f. went_by n (slice_get us f) c) n) (length us)
      (λ c l. total_le (came_by n (slice_get us c)) (λ f. went_by n (slice_get us f) c) n (λ f m. pair_le us n f c (up f m) l (met f c (up f m) l))) in
      let swap = total_swap (λ c f. went_by n (slice_get us f) c) (length us) n in
      let lengths : total (λ f. total (λ c. went_by n (slice_get us f) c) (length us)) n ≡ total (λ f. total (went_by n (slice_get us f)) n) (length us)
      = ap₂ (λ x y. total (λ f. total (λ c. went_by n (slice_get us f) c) x) y) count (sym count) in
      let went = total_le (λ f. total (went_by n (slice_get us f)) n) (λ f. given_by view n (slice_get us f)) (length us) (λ f l. went_all n (slice_get us f)) in
      omega arith

  -- all of one machine
  abbrev AreOf : ℕ → List U → Type 0
  AreOf n us = (c : ℕ) (d : U) → c < length us → (view (slice_index_or us c d)).core.config.top.clusters ≡ n

  pub mesh_of : (t : Topology) (us : List U) → IsMesh view t us → AreOf t.clusters us
  mesh_of t us mesh c d low = ap (λ (x : Topology). x.clusters) (mesh.top c d low)

  -- two lists of units, place by place
  here_eased : (n : ℕ) (us vs : List U) (c : ℕ) → length vs ≡ length us → c < length us → AreOf n us → ((d : U) → IsNoHeavier (view (slice_index_or us c d)).core (view (slice_index_or vs c d)).core)
      → given_by view n (slice_get vs c) + taken_by view n (slice_get us c) ≤ given_by view n (slice_get us c) + taken_by view n (slice_get vs c)
  here_eased n us vs c count low of eased =
      let x = unit_at us c low in
      let a = (view (slice_index_or us c x.0)).core in
      let b = (view (slice_index_or vs c x.0)).core in
      let at : slice_get vs c ≡ Some (slice_index_or vs c x.0) = slice_get-get_or vs c x.0 (subst (λ m. c < m) (sym count) low) in
      let h : went_out n b.outlets + b.weight + came_in n a.inlets ≤ went_out n a.outlets + a.weight + came_in n b.inlets
      = subst (λ m. went_out m b.outlets + b.weight + came_in m a.inlets ≤ went_out m a.outlets + a.weight + came_in m b.inlets) (of c x.0 low) (eased x.0) in
      subst (λ o. given_by view n o + taken_by view n (slice_get us c) ≤ given_by view n (slice_get us c) + taken_by view n o) (sym at)
      (subst (λ o. given_by view n (Some (slice_index_or vs c x.0)) + taken_by view n o ≤ given_by view n o + taken_by view n (Some (slice_index_or vs c x.0))) (sym x.1) h)

  here_lighter : (n : ℕ) (us vs : List U) (c : ℕ) → length vs ≡ length us → c < length us → AreOf n us → ((d : U) → IsLighter (view (slice_index_or us c d)).core (view (slice_index_or vs c d)).core)
      → given_by view n (slice_get vs c) + taken_by view n (slice_get us c) < given_by view n (slice_get us c) + taken_by view n (slice_get vs c)
  here_lighter n us vs c count low of lighter =
      let x = unit_at us c low in
      let a = (view (slice_index_or us c x.0)).core in
      let b = (view (slice_index_or vs c x.0)).core in
      let at : slice_get vs c ≡ Some (slice_index_or vs c x.0) = slice_get-get_or vs c x.0 (subst (λ m. c < m) (sym count) low) in
      let h : went_out n b.outlets + b.weight + came_in n a.inlets < went_out n a.outlets + a.weight + came_in n b.inlets
      = subst (λ m. went_out m b.outlets + b.weight + came_in m a.inlets < went_out m a.outlets + a.weight + came_in m b.inlets) (of c x.0 low) (lighter x.0) in
      subst (λ o. given_by view n o + taken_by view n (slice_get us c) < given_by view n (slice_get us c) + taken_by view n o) (sym at)
      (subst (λ o. given_by view n (Some (slice_index_or vs c x.0)) + taken_by view n o < given_by view n o + taken_by view n (Some (slice_index_or vs c x.0))) (sym x.1) h)

  all_fall : (n : ℕ) (us vs : List U) → AreOf n us → Each view IsEased us vs → OneSettled view us vs → given view n vs + received view n us < given view n us + received view n vs
  unfolding given received
  all_fall n us vs of eased one =
      let fall = total_falls_once (λ c. given_by view n (slice_get vs c)) (λ c. taken_by view n (slice_get us c)) (λ c. given_by view n (slice_get us c)) (λ c. taken_by view n (slice_get vs c)) one.place (length us) one.low
      (λ c low. here_eased n us vs c eased.count low of (λ d. (eased.each c d low).weight)) (here_lighter n us vs one.place eased.count one.low of one.lighter) in
      subst (λ m. total (λ c. given_by view n (slice_get vs c)) m + total (λ c. taken_by view n (slice_get us c)) (length us) < total (λ c. given_by view n (slice_get us c)) (length us) + total (λ c. taken_by view n (slice_get vs c)) m) (sym eased.count) fall

  -- where units only meet
  given_met : (n : ℕ) (us vs : List U) → Each view OnlyMet us vs → given view n vs ≡ given view n us
  unfolding given
  given_met n us vs f = ap (total (λ c. given_by view n (slice_get vs c))) f.count ∙ total_same (λ c. given_by view n (slice_get vs c)) (λ c. given_by view n (slice_get us c)) (length us) (λ c low.
      (let x = unit_at us c low in
      ap (given_by view n) (slice_get-get_or vs c x.0 (subst (λ m. c < m) (sym f.count) low)) ∙ met_weight n (view (slice_index_or us c x.0)) (view (slice_index_or vs c x.0)) (f.each c x.0 low) ∙ ap (given_by view n) (sym x.1)))

  received_met : (n : ℕ) (us vs : List U) → Each view OnlyMet us vs → received view n vs ≡ received view n us
  unfolding received
  received_met n us vs f = ap (total (λ c. taken_by view n (slice_get vs c))) f.count ∙ total_same (λ c. taken_by view n (slice_get vs c)) (λ c. taken_by view n (slice_get us c)) (length us) (λ c low.
      (let x = unit_at us c low in
      ap (taken_by view n) (slice_get-get_or vs c x.0 (subst (λ m. c < m) (sym f.count) low)) ∙ met_came n (view (slice_index_or us c x.0)) (view (slice_index_or vs c x.0)) (f.each c x.0 low) ∙ ap (taken_by view n) (sym x.1)))

  -- a pass of settling lowers the weight
  pub pass_falls : (t : Topology) (us vs ws : List U) → IsMesh view t us → AllHaveMet view us → Each view IsEased us vs → OneSettled view us vs → Each view OnlyMet vs ws → AllHaveMet view ws → weight_among view t.clusters ws < weight_among view t.clusters us
  pass_falls t us vs ws mesh met eased one only again =
      let n = t.clusters in
      let fall = all_fall n us vs (mesh_of t us mesh) eased one in
      let same_given = given_met n vs ws only in
      let same_received = received_met n vs ws only in
      let before = received_le us n mesh.count met in
      let after = received_le ws n (only.count ∙ eased.count ∙ mesh.count) again in
      omega arith

  -- where none had anything to do nothing is on its way
  pub rested_emptied : (t : Topology) (us vs : List U) → IsMesh view t us → AllHaveMet view us → Each view Rests us vs → AreEmptied view vs
  rested_emptied t us vs mesh met rest a b low below k d e x y =
      let in_us : (c : ℕ) → c < length vs → c < length us = λ c l. subst (λ m. c < m) rest.count l in
      let at = met a b (in_us a low) (in_us b below) k d e x y in
      let from = rest.each a d (in_us a low) in
      let to = rest.each b e (in_us b below) in
      let cluster : a < (view (slice_index_or vs b e)).core.config.top.clusters
      = subst (λ (w : Config). a < w.top.clusters) (sym to.same.counts.same.config) (subst (λ (s : Topology). a < s.clusters) (sym (mesh.top b e (in_us b below))) (subst (λ m. a < m) mesh.count (in_us a low))) in
      let none = to.shows a k y cluster in
      let was = prefix_none (slice_index_or (view (slice_index_or us b e)).core.inlets (place a k) y).known (slice_index_or (view (slice_index_or vs b e)).core.inlets (place a k) y).known (to.same.known (place a k) y) none in
      let all : at.rest ≡ [] = no_rest at.rest (slice_index_or (view (slice_index_or us b e)).core.inlets (place a k) y).known at.known was in
      from.same.sent (place b k) x ∙ sym at.begins ∙ ap (λ l. (slice_index_or (view (slice_index_or us b e)).core.inlets (place a k) y).received ++ l) all ∙ append-nil _ ∙ sym (to.same.received (place a k) y)
    where
      prefix_none : (xs ys : List Parcel) → IsPrefix xs ys → ys ≡ [] → xs ≡ []
      prefix_none [] ys p e = refl
      prefix_none (z ∷ zs) ys p e = absurd (let q : (z ∷ zs) ++ p.0 ≡ [] = p.1 ∙ e in cc)

      no_rest : (rs ks : List Parcel) → (rs ≡ []) ⊎ (0 < length ks) → ks ≡ [] → rs ≡ []
      no_rest rs ks (inl e) none = e
      no_rest rs ks (inr some) none = absurd (let z : length ks ≡ 0 = ap (λ (l : List Parcel). length l) none in omega arith)

  pub rested_grants : (us vs : List U) → Each view Rests us vs → NoneGrants view vs
  rested_grants us vs rest c d low = (rest.each c d (subst (λ m. c < m) rest.count low)).granted

-- a unit that settled, one more among all
one_false : (a b : Bool) → (a && b) ≡ false → (a ≡ false) ⊎ (b ≡ false)
one_false true b e = inr e
one_false false b e = inl refl

module _ {U : Type 0} (view : U → UnitView) where
  one_kept : (us vs ws : List U) → Each view IsEased us vs → Each view IsEased vs ws → OneSettled view us vs → OneSettled view us ws
  one_kept us vs ws f g one = record {
    place = one.place;
    low = one.low;
    lighter = λ d. lighter_then (view (slice_index_or us one.place d)).core (view (slice_index_or vs one.place d)).core (view (slice_index_or ws one.place d)).core (f.each one.place d one.low).counts.same.config (one.lighter d)
        (g.each one.place d (subst (λ m. one.place < m) (sym f.count) one.low)).weight;
  }

  one_more : (us vs : List U) (i : ℕ) (d v : U) → Each view IsEased us vs → i < length vs → IsLighter (view (slice_index_or vs i d)).core (view v).core → OneSettled view us (slice_set vs i v)
  one_more us vs i d v f low less =
      let inside : i < length us = subst (λ m. i < m) f.count low in
      record {
        place = i;
        low = inside;
        lighter = λ e. subst (λ z. IsLighter (view (slice_index_or us i e)).core (view z).core) (sym (get_or-set_same vs i v e low))
            (then_lighter (view (slice_index_or us i e)).core (view (slice_index_or vs i e)).core (view v).core (f.each i e inside).counts.same.config (f.each i e inside).weight
            (subst (λ z. IsLighter (view z).core (view v).core) (get_or_default vs i d e low) less));
      }

  -- those before a place rest, where none settled
  pub record SettledBelow (i : ℕ) (idle : Bool) (us vs : List U) : Type 0 where
    pub eased : Each view IsEased us vs
    pub did : IsFalse idle → OneSettled view us vs
    pub same : IsTrue idle → Each view OnlyMet us vs
    pub rest : IsTrue idle → (c : ℕ) (d : U) → c < i → NoneToGrant (view (slice_index_or vs c d)).core × ShowsNone (view (slice_index_or vs c d)).core

  pub none_settled : (us : List U) → SettledBelow 0 true us us
  none_settled us = record { eased = each_again view IsEased us eased_again; did = λ e. absurd (cc); same = λ _. each_again view OnlyMet us met_again; rest = λ _ c d low. absurd (omega arith) }

  pub next_eased : (us vs : List U) (i : ℕ) (d v : U) → Each view IsEased us vs → i < length vs → IsEased (view (slice_index_or vs i d)) (view v) → Each view IsEased us (slice_set vs i v)
  next_eased us vs i d v f low goes = each_then view IsEased IsEased IsEased us vs (slice_set vs i v) eased_then f (each_at view IsEased vs i d v eased_again low goes)

  pub next_settled : (us vs : List U) (i : ℕ) (idle turn : Bool) (d v : U) → SettledBelow i idle us vs → i < length vs → IsEased (view (slice_index_or vs i d)) (view v) → SettledBy turn (view (slice_index_or vs i d)) (view v) → SettledBelow (i + 1) (idle && turn) us (slice_set vs i v)
  next_settled us vs i idle turn d v s low goes by =
      let one = each_at view IsEased vs i d v eased_again low goes in
      record {
        eased = next_eased us vs i d v s.eased low goes;
        did = λ no. one_did (one_false idle turn no);
        same = λ all. (let b = both idle turn all in each_then view OnlyMet OnlyMet OnlyMet us vs (slice_set vs i v) met_then (s.same b.0) (each_at view OnlyMet vs i d v met_again low (by.rests b.1).same));
        rest = λ all. (let b = both idle turn all in upto (λ u. NoneToGrant (view u).core × ShowsNone (view u).core) vs i v low (s.rest b.0) ((by.rests b.1).granted, (by.rests b.1).shows));
      }
    where
      one_did : (idle ≡ false) ⊎ (turn ≡ false) → OneSettled view us (slice_set vs i v)
      one_did (inl e) = one_kept us vs (slice_set vs i v) s.eased (each_at view IsEased vs i d v eased_again low goes) (s.did e)
      one_did (inr e) = one_more us vs i d v s.eased low (by.did e)

  pub all_settled : (us vs : List U) (i : ℕ) (idle : Bool) → length us ≤ i → SettledBelow i idle us vs → AllSettledBy view idle us vs
  all_settled us vs i idle past s = record {
    did = s.did;
    rest = λ all. record {
      count = s.eased.count;
      each = λ c d low. (let at = s.rest all c d (omega arith) in record { same = (s.same all).each c d low; granted = at.0; shows = at.1 });
    };
  }

  -- what eased keeps its counts, after units met
  pub eased_counts : (us vs : List U) → Each view IsEased us vs → Each view HasCounts us vs
  eased_counts us vs f = each_weaker view IsEased HasCounts us vs (λ a b e. e.counts) f

  pub met_eased_counts : (us vs ws : List U) → Each view OnlyMet us vs → Each view IsEased vs ws → Each view HasCounts us ws
  met_eased_counts us vs ws f g = each_then view HasCounts HasCounts HasCounts us vs ws counts_then (each_weaker view OnlyMet HasCounts us vs met_counts f) (eased_counts vs ws g)

  pub eased_met : (us vs ws : List U) → Each view IsEased us vs → Each view OnlyMet vs ws → Each view IsEased us ws
  eased_met us vs ws f g = each_then view IsEased IsEased IsEased us vs ws eased_then f (each_weaker view OnlyMet IsEased vs ws met_eased g)

  pub mesh_counted : (t : Topology) (us vs : List U) → Each view HasCounts us vs → IsMesh view t us → IsMesh view t vs
  mesh_counted t us vs f mesh = mesh_stays view t us vs (each_weaker view HasCounts (λ a b. IsSame a.core b.core) us vs counts_same f) mesh

-- steps of one unit, one more
pub record SettledFor (n : ℕ) (a b : UnitView) : Type 0 where
  pub eased : IsEased a b
  pub none : n ≡ 0 → OnlyMet a b
  pub some : 0 < n → IsLighter a.core b.core

pub no_steps : (a : UnitView) → SettledFor 0 a a
no_steps a = record { eased = eased_again a; none = λ _. met_again a; some = λ some. absurd (omega arith) }

pub step_more : (n : ℕ) (a b c : UnitView) → SettledFor n a b → IsEased b c → SettledBy false b c → SettledFor (n + 1) a c
step_more n a b c s goes by = record {
  eased = eased_then a b c s.eased goes;
  none = λ e. absurd (omega arith);
  some = λ _. then_lighter a.core b.core c.core s.eased.counts.same.config s.eased.weight (by.did refl);
}

pub steps_end : (n : ℕ) (i : Bool) (a b c : UnitView) → (n == 0) ≡ i → SettledFor n a b → IsEased b c → SettledBy true b c → SettledBy i a c
steps_end n true a b c e s goes by = let r = by.rests refl in let none : n ≡ 0 = grind (arith, nat_tests) in record { did = λ no. absurd (cc); rests = λ _. record { same = met_then a b c (s.none none) r.same; granted = r.granted; shows = r.shows } }
steps_end n false a b c e s goes by = let some : 0 < n = grind (arith, nat_tests) in record { did = λ _. lighter_then a.core b.core c.core s.eased.counts.same.config (s.some some) goes.weight; rests = λ no. absurd (cc) }

pub steps_spent : (n : ℕ) (a b : UnitView) → 0 < n → SettledFor n a b → SettledBy false a b
steps_spent n a b some s = record { did = λ _. s.some some; rests = λ no. absurd (cc) }

module _ {U : Type 0} (view : U → UnitView) where
  -- where units only met, all that was emptied is
  pub all_emptied : (us vs : List U) → Each view OnlyMet us vs → AreEmptied view us → AreEmptied view vs
  all_emptied us vs f empty a b low below =
      let lower : a < length us = subst (λ m. a < m) f.count low in
      let under : b < length us = subst (λ m. b < m) f.count below in
      emptied_stays view us vs a b f lower under (empty a b lower under)
