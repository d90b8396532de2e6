-- Each message of a run is of a line of memory or of a lock word, and in range.
use Rattle.std.proofs.Common.{◌≡◌, ◌⊎◌, ℕ, ◌≤◌, ◌<◌, ◌==◌, Bool, true, false, cond, List, [], ◌∷◌, refl, ap, subst, inl, inr, arith}
use Rattle.std.proofs.lemmas.Bool.Decides.{nat_tests}
use Rattle.dash_base.specs.declared.line.Line.{Line}
use Rattle.dash_msg.specs.declared.msg.Msg.{Msg}
use Rattle.dash_msg.specs.declared.msg.Msg.TheVariants.{Read, ReadEx, FwdRead, FwdReadEx, Inval, WriteBack, SharingBack, Transfer, LockAsk, Unlock, Data, DataEx, Ack, TransferAck, Nak, LockGrant, UnlockAck}
use Rattle.dash_event.specs.declared.event.Event.{Event}
use Rattle.dash_model.specs.Maps.{weigh}
use Rattle.dash_model.specs.Config.{Config, lines, home_of}
use Rattle.dash_model.specs.Net.{Packet, parcel}
use Rattle.dash_model.specs.OnLine.{is_of, on}
use Rattle.dash_model.specs.Ranges.{has_line, has_cluster, at_home, in_range}
use Rattle.dash_model.specs.LineFacts.{IsOnItsWay}
use Rattle.dash_model.specs.Machine.{Machine, Reaches}
use Rattle.dash_model.proofs.Tests.{same, below, both}
use Rattle.dash_model.proofs.LineState.{State}
use Rattle.dash_model.proofs.Facts.{misrouted}
use Rattle.dash_model.proofs.Steps.{Invariant}
use Rattle.dash_model.proofs.OnNet.{all-member}
use Rattle.dash_model.proofs.Bounds.{PacketNamed, Bounded}
use Rattle.dash_model.proofs.Along.{along}
use Rattle.dash_model.proofs.Taken.{line_in, home_in}
use Rattle.dash_model.proofs.Reached.{each_reached}
use Rattle.dash_model.proofs.Nowhere.{nowhere}
use Rattle.dash_model.proofs.Each.{each_member}
use Rattle.dash_model.proofs.LockRange.{LockFits, locks_fit}

on_member_by : (l : ℕ) (q p : Packet) (ps : List Packet) (b : Bool) → is_of l p.msg ≡ b → is_of l q.msg ≡ true → (q ≡ p) ⊎ IsOnItsWay q (on l ps) → IsOnItsWay q (cond b (p ∷ on l ps) (on l ps))
on_member_by l q p ps true e o i = i
on_member_by l q p ps false e o (inl s) = let t : is_of l q.msg ≡ is_of l p.msg = ap (λ (y : Packet). is_of l y.msg) s in absurd (cc)
on_member_by l q p ps false e o (inr i) = i

pub on_member : (l : ℕ) (q : Packet) (net : List Packet) → is_of l q.msg ≡ true → IsOnItsWay q net → IsOnItsWay q (on l net)
unfolding on
on_member l q [] o i = absurd i
on_member l q (p ∷ ps) o (inl e) = on_member_by l q p ps (is_of l p.msg) refl o (inl e)
on_member l q (p ∷ ps) o (inr i) = on_member_by l q p ps (is_of l p.msg) refl o (inr (on_member l q ps o i))

pub weigh_member : (v : Packet → ℕ) (q : Packet) (net : List Packet) → IsOnItsWay q net → v q ≤ weigh v net
unfolding weigh
weigh_member v q [] i = absurd i
weigh_member v q (p ∷ ps) (inl e) = let s : v q ≡ v p = ap v e in omega arith
weigh_member v q (p ∷ ps) (inr i) = let s = weigh_member v q ps i in omega arith

is_home : (h b n : ℕ) → cond (b == h) 0 1 ≤ n → n ≡ 0 → b ≡ h
is_home h b n l e = grind (arith, nat_tests)

-- where it goes, of what its home serves
at_target : (w : Config) (l : ℕ) (v : Line) (a b u : ℕ) (m : Msg) (s : State) → IsOnItsWay (parcel a b m u) s.net → Invariant (home_of w l) v s → misrouted (home_of w l) (parcel a b m u) ≡ cond (b == home_of w l) 0 1 → b ≡ home_of w l
at_target w l v a b u m s o i e = is_home (home_of w l) b (weigh (misrouted (home_of w l)) s.net) (subst (λ y. y ≤ weigh (misrouted (home_of w l)) s.net) e (weigh_member (misrouted (home_of w l)) (parcel a b m u) s.net o)) (i.known 0).facts.requests.routed

-- a message of a line of memory
range_by : (w : Config) (l : ℕ) (v : Line) (a b u : ℕ) (m : Msg) (s : State) → l < lines w → is_of l m ≡ true → IsOnItsWay (parcel a b m u) s.net → Invariant (home_of w l) v s → Bounded w.top.clusters s → in_range w b m ≡ true
range_by w l v a b u (Read k) s low e o i n = home_in w b k l e low (at_target w l v a b u (Read k) s o i refl)
range_by w l v a b u (ReadEx k) s low e o i n = home_in w b k l e low (at_target w l v a b u (ReadEx k) s o i refl)
range_by w l v a b u (FwdRead k r) s low e o i n = both (has_line w k) (has_cluster w r) (line_in w k l e low) (below r.0 w.top.clusters (all-member (PacketNamed w.top.clusters) (parcel a b (FwdRead k r) u) s.net o n.net).1)
range_by w l v a b u (FwdReadEx k r) s low e o i n = both (has_line w k) (has_cluster w r) (line_in w k l e low) (below r.0 w.top.clusters (all-member (PacketNamed w.top.clusters) (parcel a b (FwdReadEx k r) u) s.net o n.net).1)
range_by w l v a b u (Inval k r) s low e o i n = both (has_line w k) (has_cluster w r) (line_in w k l e low) (below r.0 w.top.clusters (all-member (PacketNamed w.top.clusters) (parcel a b (Inval k r) u) s.net o n.net).1)
range_by w l v a b u (WriteBack k d) s low e o i n = home_in w b k l e low (at_target w l v a b u (WriteBack k d) s o i refl)
range_by w l v a b u (SharingBack k d r) s low e o i n = both (at_home w b k) (has_cluster w r) (home_in w b k l e low (at_target w l v a b u (SharingBack k d r) s o i refl)) (below r.0 w.top.clusters (all-member (PacketNamed w.top.clusters) (parcel a b (SharingBack k d r) u) s.net o n.net).1)
range_by w l v a b u (Transfer k r) s low e o i n = both (at_home w b k) (has_cluster w r) (home_in w b k l e low (at_target w l v a b u (Transfer k r) s o i refl)) (below r.0 w.top.clusters (all-member (PacketNamed w.top.clusters) (parcel a b (Transfer k r) u) s.net o n.net).1)
range_by w l v a b u (LockAsk h x word y) s low e o i n = absurd (cc)
range_by w l v a b u (Unlock h x word) s low e o i n = absurd (cc)
range_by w l v a b u (Data k d) s low e o i n = line_in w k l e low
range_by w l v a b u (DataEx k d x) s low e o i n = line_in w k l e low
range_by w l v a b u (Ack k) s low e o i n = line_in w k l e low
range_by w l v a b u (TransferAck k) s low e o i n = line_in w k l e low
range_by w l v a b u (Nak k) s low e o i n = line_in w k l e low
range_by w l v a b u (LockGrant h) s low e o i n = absurd (cc)
range_by w l v a b u (UnlockAck h old) s low e o i n = absurd (cc)

pub in_or_out : (l n : ℕ) → (l < n) ⊎ (n ≤ l)
in_or_out l n = grind arith

none_there : (q : Packet) (net : List Packet) → net ≡ [] → IsOnItsWay q net → ⊥
none_there q [] e i = i
none_there q (p ∷ ps) e i = cc

-- a message of a line
of_line : (w : Config) (log : List Event) (m : Machine) (q : Packet) (l : ℕ) → is_of l q.msg ≡ true → Reaches w log m → IsOnItsWay q m.net → in_range w q.dst q.msg ≡ true
of_line w log m q l e r o =
    elim (in_or_out l (lines w)) [
      | inl low ↦ (let k = each_reached w log m l low r in range_by w l k.content q.src q.dst q.stamp q.msg (along w l m) low e (on_member l q m.net e o) k.holds.invariant k.holds.bounded)
      | inr out ↦ absurd (none_there q (on l m.net) (nowhere w log m r l out).net (on_member l q m.net e o))
    ]

by_msg : (w : Config) (log : List Event) (m : Machine) (a b u : ℕ) (x : Msg) → Reaches w log m → IsOnItsWay (parcel a b x u) m.net → in_range w b x ≡ true
by_msg w log m a b u (Read l) r o = of_line w log m (parcel a b (Read l) u) l.0 (same l.0) r o
by_msg w log m a b u (ReadEx l) r o = of_line w log m (parcel a b (ReadEx l) u) l.0 (same l.0) r o
by_msg w log m a b u (FwdRead l t) r o = of_line w log m (parcel a b (FwdRead l t) u) l.0 (same l.0) r o
by_msg w log m a b u (FwdReadEx l t) r o = of_line w log m (parcel a b (FwdReadEx l t) u) l.0 (same l.0) r o
by_msg w log m a b u (Inval l t) r o = of_line w log m (parcel a b (Inval l t) u) l.0 (same l.0) r o
by_msg w log m a b u (WriteBack l d) r o = of_line w log m (parcel a b (WriteBack l d) u) l.0 (same l.0) r o
by_msg w log m a b u (SharingBack l d t) r o = of_line w log m (parcel a b (SharingBack l d t) u) l.0 (same l.0) r o
by_msg w log m a b u (Transfer l t) r o = of_line w log m (parcel a b (Transfer l t) u) l.0 (same l.0) r o
by_msg w log m a b u (LockAsk h n word v) r o = each_member (LockFits w) (parcel a b (LockAsk h n word v) u) m.net o (locks_fit w log m r).net
by_msg w log m a b u (Unlock h n word) r o = each_member (LockFits w) (parcel a b (Unlock h n word) u) m.net o (locks_fit w log m r).net
by_msg w log m a b u (Data l d) r o = of_line w log m (parcel a b (Data l d) u) l.0 (same l.0) r o
by_msg w log m a b u (DataEx l d n) r o = of_line w log m (parcel a b (DataEx l d n) u) l.0 (same l.0) r o
by_msg w log m a b u (Ack l) r o = of_line w log m (parcel a b (Ack l) u) l.0 (same l.0) r o
by_msg w log m a b u (TransferAck l) r o = of_line w log m (parcel a b (TransferAck l) u) l.0 (same l.0) r o
by_msg w log m a b u (Nak l) r o = of_line w log m (parcel a b (Nak l) u) l.0 (same l.0) r o
by_msg w log m a b u (LockGrant h) r o = each_member (LockFits w) (parcel a b (LockGrant h) u) m.net o (locks_fit w log m r).net
by_msg w log m a b u (UnlockAck h old) r o = each_member (LockFits w) (parcel a b (UnlockAck h old) u) m.net o (locks_fit w log m r).net

pub in_range_all : (w : Config) (log : List Event) (m : Machine) (q : Packet) → Reaches w log m → IsOnItsWay q m.net → in_range w q.dst q.msg ≡ true
in_range_all w log m q r o = by_msg w log m q.src q.dst q.stamp q.msg r o
