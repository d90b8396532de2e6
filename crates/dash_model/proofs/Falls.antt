-- Each Take, Free, Grant, Install and Evict of a run lowers the weight of the machine, and asks for no line.
use Rattle.std.proofs.Common.{◌≡◌, ℕ, ◌+◌, ◌<◌, ◌==◌, Bool, true, false, cond, List, [], ◌∷◌, map, refl, sym, ap, ◌∙◌, subst, inl, inr, arith}
use Rattle.dash_msg.specs.Classes.{class_of}
use Rattle.dash_msg.specs.declared.classes.Class.TheVariants.{Request}
use Rattle.dash_msg.specs.declared.msg.Msg.TheVariants.{Unlock}
use Rattle.dash_msg.specs.declared.parcel.Sent.{Sent}
use Rattle.dash_event.specs.declared.event.Event.{Event}
use Rattle.dash_event.specs.declared.event.Kind.{Kind}
use Rattle.dash_event.specs.declared.event.Kind.TheVariants as kind
use Rattle.dash_model.specs.Maps.{upd, weigh}
use Rattle.dash_model.specs.Config.{Config}
use Rattle.dash_model.specs.Net.{Packet, packet, parcel, send}
use Rattle.dash_model.specs.Part.{Part}
use Rattle.dash_model.specs.Row.{row}
use Rattle.dash_model.specs.Machine.{Machine, taken, AtHead, less, part_after, Reaches}
use Rattle.dash_model.specs.LineFacts.{IsOnItsWay}
use Rattle.dash_model.specs.Weight.{packet_weight, part_weight, weight_of}
use Rattle.dash_model.specs.Settling.{HasAsked, AsksForLine, WeightFalls}
use Rattle.dash_model.proofs.Tests.{same, differ, is_same}
use Rattle.dash_model.proofs.Totals.{total_change}
use Rattle.dash_model.proofs.Weigh.{weigh-append, cut}
use Rattle.dash_model.proofs.EntryBounds.{EntryBounded}
use Rattle.dash_model.proofs.Lowers.{EntriesFit, IsNeat, taken_weight, event_lowers, packets_weight}
use Rattle.dash_model.proofs.Reached.{each_reached}
use Rattle.dash_model.proofs.Targets.{lines_are_of_memory}
use Rattle.dash_model.proofs.Weights.{sent_weight, NoneAsks}

-- what runs keep
entries_fit : (w : Config) (log : List Event) (m : Machine) (c : ℕ) → Reaches w log m → EntriesFit w c (m.parts c)
entries_fit w log m c r l low e = subst (λ x. EntryBounded w.top.clusters ((m.parts x).homes l).entry) (sym e) (each_reached w log m l low r).holds.bounded.entry

neat : (w : Config) (log : List Event) (m : Machine) (c : ℕ) → Reaches w log m → IsNeat w c (m.parts c)
neat w log m c r = record { entries = entries_fit w log m c r; beyond = λ l out. lines_are_of_memory w log m l c (inl out) r }

-- the messages on their way
less_weight : (n c u : ℕ) (e : Kind) (net : List Packet) → AtHead (taken c u e) net → weigh (packet_weight n) (less (taken c u e) net) + taken_weight n e ≡ weigh (packet_weight n) net
less_weight n c u (kind.Take f x) net h = cut f.0 c (class_of x) (parcel f.0 c x u) net h (packet_weight n)
less_weight n c u (kind.Free f a) net h = cut f.0 c Request (parcel f.0 c (Unlock a.hart a.number a.word) u) net h (packet_weight n)
less_weight n c u _ net h = omega arith

send_weight : (n t a : ℕ) (net : List Packet) (ss : List Sent) → weigh (packet_weight n) (send net t a ss) ≡ weigh (packet_weight n) net + sent_weight n ss
unfolding send
send_weight n t a net ss = weigh-append (packet_weight n) net (map (packet t a) ss) ∙ ap (λ k. weigh (packet_weight n) net + k) (packets_weight n t a ss)

none_asks : (q : Packet) (t a : ℕ) (ss : List Sent) → NoneAsks ss → IsOnItsWay q (map (packet t a) ss) → AsksForLine q.msg → ⊥
none_asks q t a [] k o = absurd o
none_asks q t a (x ∷ xs) k (inl e) = subst (λ (y : Packet). AsksForLine y.msg → ⊥) (sym e) k.0
none_asks q t a (x ∷ xs) k (inr o) = none_asks q t a xs k.1 o

slot_at : (l x c : ℕ) (q : Part) (m : Machine) (i : Bool) → (x == c) ≡ i → (HasAsked (q.cells l).slot → ((m.parts c).cells l).slot ≡ (q.cells l).slot) → HasAsked ((cond i q (m.parts x)).cells l).slot → ((m.parts x).cells l).slot ≡ ((cond i q (m.parts x)).cells l).slot
slot_at l x c q m true e h t = ap (λ y. ((m.parts y).cells l).slot) (is_same x c e) ∙ h t
slot_at l x c q m false e h t = refl

pub weight_falls : WeightFalls
unfolding weight_of
weight_falls w log m g r can s =
    let n = w.top.clusters in
    let c = g.event.cluster.0 in
    let p = m.parts c in
    let bound = can.cluster in
    let d = event_lowers w c g.event.kind g.done p (neat w log m c r) (omega arith) can.steps.guard s in
    let q = part_after w c g p in
    let ss = (row w c g.event.kind g.done p).sent in
    let falls : sent_weight n ss + part_weight w q < taken_weight n g.event.kind + part_weight w p = d.less in
    let change = total_change (λ x. part_weight w (m.parts x)) (λ x. part_weight w (upd m.parts c q x)) c n bound (λ x other. ap (λ b. part_weight w (cond b q (m.parts x))) (sym (differ x c other))) in
    let here : part_weight w (upd m.parts c q c) ≡ part_weight w q = ap (λ b. part_weight w (cond b q p)) (same c) in
    let net = send_weight n g.event.stamp c (less (taken c g.stamp g.event.kind) m.net) ss in
    let left = less_weight n c g.stamp g.event.kind m.net can.head in
    record {
      weight = omega arith;
      slots = λ x l. slot_at l x c q m (x == c) refl (d.slots l);
      sent = λ y o. none_asks y g.event.stamp c ss d.sent o;
    }
