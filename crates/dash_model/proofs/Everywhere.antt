-- What each content of a line has, wherever it is: in memory, in copies, in slots and in messages. Only a commit makes a content.
use Rattle.std.proofs.Common.{◌≡◌, ℕ, ◌+◌, ◌≤◌, ◌==◌, ◌&&◌, Bool, true, false, cond, nat_lt, None, Some, List, [], ◌∷◌, ◌++◌, refl, ap, subst, arith}
use Rattle.std.proofs.lemmas.Bool.Decides.{nat_tests}
use Rattle.dash_base.specs.declared.id.LineId.{LineId}
use Rattle.dash_base.specs.declared.line.Line.{Line}
use Rattle.dash_msg.specs.Classes.{class_of}
use Rattle.dash_msg.specs.declared.msg.Msg.{Msg}
use Rattle.dash_msg.specs.declared.msg.Msg.TheVariants.{Read, ReadEx, FwdRead, FwdReadEx, Inval, WriteBack, SharingBack, Transfer, Data, DataEx, Nak}
use Rattle.dash_model.specs.Maps.{without, raised, most}
use Rattle.dash_model.specs.Net.{Packet, parcel, head, tail, to}
use Rattle.dash_model.specs.Cell.{Copy, NoCopy, Held, Asked, Poisoned, Came, Refused, Slot, NoSlot, Reads, Owns, Acks, NoAcks, Entry, Uncached, SharedBy, Dirty, Cell, Home}
use Rattle.dash_model.specs.LineEffect.{LineEffect, still}
use Rattle.dash_model.specs.Replies.{arrive, arrive_own, nak_slot}
use Rattle.dash_model.specs.Requests.{read_row, own_row, give_read, give_own, poison, is_dirty_of, write_back_row, sharing_back_row, transfer_row, invals_to}
use Rattle.dash_model.specs.Acts.{Act, AskRead, AskOwn, Again, Install, Commit, Evict, Drop, BusRead, BusOwn, shrunk, drop_hart, bus_read, bus_own, commit_copy, again_row, install_row, evict_row, act_row}
use Rattle.dash_model.specs.LineRows.{take_row}
use Rattle.dash_model.proofs.LineState.{State, Where, Acts, Takes, apply, after, IsNext, MayAct, content_after}
use Rattle.dash_model.proofs.Facts.{owner_off, came_off}
use Rattle.dash_model.proofs.Contents.{off_not}
use Rattle.dash_model.proofs.Steps.{Invariant}
use Rattle.dash_model.proofs.OnNet.{AllOf, AllSent, all-head, all-tail, all-send}

-- the content of a copy has P
abbrev pub CopyHas : (Line → Type 0) → Copy → Type 0
CopyHas P NoCopy = Unit {0}
CopyHas P (Held hs o d) = P d

-- the content that came to a slot has P
abbrev pub SlotHas : (Line → Type 0) → Slot → Type 0
SlotHas P (Reads n t (Came d)) = P d
SlotHas P (Owns n t (Came d)) = P d
SlotHas P s = Unit {0}

-- the content that a message carries has P
abbrev pub MsgHas : (Line → Type 0) → Msg → Type 0
MsgHas P (WriteBack l d) = P d
MsgHas P (SharingBack l d r) = P d
MsgHas P (Data l d) = P d
MsgHas P (DataEx l d n) = P d
MsgHas P m = Unit {0}

-- each content in a state has P
pub record Everywhere (P : Line → Type 0) (s : State) : Type 0 where
  pub net : AllOf (λ p. MsgHas P p.msg) s.net
  pub mem : P s.home.mem
  pub copy : (x : ℕ) → CopyHas P (s.cells x).copy
  pub slot : (x : ℕ) → SlotHas P (s.cells x).slot

-- each content that a row leaves or sends has P
pub record DidHas (P : Line → Type 0) (d : LineEffect) : Type 0 where
  pub sent : AllSent (λ x. MsgHas P x.msg) d.sent
  pub mem : P d.home.mem
  pub copy : CopyHas P d.cell.copy
  pub slot : SlotHas P d.cell.slot

module _ (P : Line → Type 0) where
  sent_invals : (l : LineId) (r : ℕ) (cs : List ℕ) (m : Msg) (c : ℕ) → MsgHas P m → AllSent (λ x. MsgHas P x.msg) (invals_to l r cs ++ (to c m ∷ []))
  unfolding invals_to
  sent_invals l r [] m c h = (h, tt)
  sent_invals l r (x ∷ xs) m c h = (tt, sent_invals l r xs m c h)

  -- slots
  refused_has : (n h : ℕ) (i : Bool) → SlotHas P (cond i (Reads n h Refused) NoSlot)
  refused_has n h true = tt
  refused_has n h false = tt

  refused_own_has : (n h : ℕ) (i : Bool) → SlotHas P (cond i (Owns n h Refused) NoSlot)
  refused_own_has n h true = tt
  refused_own_has n h false = tt

  poison_has : (k : ℕ) (s : Slot) → SlotHas P s → SlotHas P (poison k s)
  poison_has k (Reads n h Asked) e = tt
  poison_has k (Reads n h (Came d)) e = refused_has n h (nat_lt n k)
  poison_has k (Reads n h Poisoned) e = tt
  poison_has k (Reads n h Refused) e = tt
  poison_has k (Owns n h phase) e = e
  poison_has k NoSlot e = tt

  arrive_has : (k : ℕ) (d : Line) (s : Slot) → P d → SlotHas P s → SlotHas P (arrive k d s)
  arrive_has k d (Reads n h Asked) g e = g
  arrive_has k d (Reads n h Poisoned) g e = refused_has n h (nat_lt n k)
  arrive_has k d (Reads n h (Came x)) g e = e
  arrive_has k d (Reads n h Refused) g e = tt
  arrive_has k d (Owns n h phase) g e = e
  arrive_has k d NoSlot g e = tt

  arrive_own_has : (d : Line) (s : Slot) → P d → SlotHas P s → SlotHas P (arrive_own d s)
  arrive_own_has d (Owns n h Asked) g e = g
  arrive_own_has d (Owns n h Poisoned) g e = tt
  arrive_own_has d (Owns n h (Came x)) g e = e
  arrive_own_has d (Owns n h Refused) g e = tt
  arrive_own_has d (Reads n h phase) g e = e
  arrive_own_has d NoSlot g e = tt

  nak_has : (k : ℕ) (s : Slot) → SlotHas P s → SlotHas P (nak_slot k s)
  nak_has k (Reads n h Asked) e = refused_has n h (nat_lt n k)
  nak_has k (Reads n h Poisoned) e = refused_has n h (nat_lt n k)
  nak_has k (Owns n h Asked) e = refused_own_has n h (nat_lt n k)
  nak_has k (Owns n h Poisoned) e = refused_own_has n h (nat_lt n k)
  nak_has k (Reads n h (Came d)) e = e
  nak_has k (Reads n h Refused) e = tt
  nak_has k (Owns n h (Came d)) e = e
  nak_has k (Owns n h Refused) e = tt
  nak_has k NoSlot e = tt

  -- copies
  shrunk_has : (hs : List ℕ) (d : Line) → P d → CopyHas P (shrunk hs d)
  shrunk_has [] d e = tt
  shrunk_has (h ∷ hs) d e = e

  drop_has : (t : ℕ) (c : Copy) → CopyHas P c → CopyHas P (drop_hart t c)
  drop_has t (Held hs None d) e = shrunk_has (without t hs) d e
  drop_has t (Held hs (Some o) d) e = e
  drop_has t NoCopy e = tt

  bus_read_has : (t : ℕ) (c : Copy) → CopyHas P c → CopyHas P (bus_read t c)
  bus_read_has t (Held hs o d) e = e
  bus_read_has t NoCopy e = tt

  bus_own_has : (t : ℕ) (c : Copy) → CopyHas P c → CopyHas P (bus_own t c)
  bus_own_has t (Held hs (Some o) d) e = e
  bus_own_has t (Held hs None d) e = e
  bus_own_has t NoCopy e = tt

  commit_has : (d : Line) (c : Copy) → P d → CopyHas P c → CopyHas P (commit_copy d c)
  commit_has d (Held hs (Some o) x) g e = g
  commit_has d (Held hs None x) g e = e
  commit_has d NoCopy g e = tt

  -- rows, of a cell and a home whose contents have it
  module _ (a : Cell) (b : Home) (mem : P b.mem) (copy : CopyHas P a.copy) (slot : SlotHas P a.slot) where
    left : DidHas P (still a b)
    left = record { sent = tt; mem = mem; copy = copy; slot = slot }

    read_has : (i : Bool) (l : LineId) (f : ℕ) (e : Entry) → DidHas P (cond i (read_row l f e a b) (still a b))
    read_has true l f Uncached = record { sent = (mem, tt); mem = mem; copy = copy; slot = slot }
    read_has true l f (SharedBy cs) = record { sent = (mem, tt); mem = mem; copy = copy; slot = slot }
    read_has true l f (Dirty o) = record { sent = (tt, tt); mem = mem; copy = copy; slot = slot }
    read_has false l f e = left

    own_has : (i : Bool) (l : LineId) (f : ℕ) (e : Entry) → DidHas P (cond i (own_row l f e a b) (still a b))
    own_has true l f Uncached = record { sent = (mem, tt); mem = mem; copy = copy; slot = slot }
    own_has true l f (SharedBy cs) = record { sent = sent_invals l f (without f cs) (DataEx l b.mem _) f mem; mem = mem; copy = copy; slot = slot }
    own_has true l f (Dirty o) = record { sent = (tt, tt); mem = mem; copy = copy; slot = slot }
    own_has false l f e = left

    give_read_has : (l : LineId) (h r : ℕ) (c : Copy) (k : Acks) → CopyHas P c → DidHas P (give_read l h r c k a b)
    give_read_has l h r (Held hs (Some o) d) NoAcks e = record { sent = (e, (e, tt)); mem = mem; copy = e; slot = slot }
    give_read_has l h r _ _ e = record { sent = (tt, tt); mem = mem; copy = copy; slot = slot }

    give_own_has : (l : LineId) (h r : ℕ) (c : Copy) (k : Acks) → CopyHas P c → DidHas P (give_own l h r c k a b)
    give_own_has l h r (Held hs (Some o) d) NoAcks e = record { sent = (e, (tt, tt)); mem = mem; copy = tt; slot = slot }
    give_own_has l h r _ _ e = record { sent = (tt, tt); mem = mem; copy = copy; slot = slot }

    write_back_has : (d : Line) (i : Bool) → P d → DidHas P (write_back_row d i a b)
    write_back_has d true e = record { sent = tt; mem = e; copy = copy; slot = slot }
    write_back_has d false e = left

    sharing_back_has : (f : ℕ) (d : Line) (r : ℕ) (i : Bool) → P d → DidHas P (sharing_back_row f d r i a b)
    sharing_back_has f d r true e = record { sent = tt; mem = e; copy = copy; slot = slot }
    sharing_back_has f d r false e = left

    transfer_has : (l : LineId) (r : ℕ) (i : Bool) → DidHas P (transfer_row l r i a b)
    transfer_has l r true = record { sent = (tt, tt); mem = mem; copy = copy; slot = slot }
    transfer_has l r false = left

    take_has : (k h c f : ℕ) (m : Msg) → MsgHas P m → DidHas P (take_row k h c f m a b)
    take_has k h c f (Read l) e = read_has (c == h) l f b.entry
    take_has k h c f (ReadEx l) e = own_has (c == h) l f b.entry
    take_has k h c f (FwdRead l r) e = give_read_has l h r.0 a.copy a.acks copy
    take_has k h c f (FwdReadEx l r) e = give_own_has l h r.0 a.copy a.acks copy
    take_has k h c f (Inval l r) e = record { sent = (tt, tt); mem = mem; copy = tt; slot = poison_has k a.slot slot }
    take_has k h c f (WriteBack l d) e = write_back_has d ((c == h) && is_dirty_of f b.entry) e
    take_has k h c f (SharingBack l d r) e = sharing_back_has f d r.0 ((c == h) && is_dirty_of f b.entry) e
    take_has k h c f (Transfer l r) e = transfer_has l r.0 ((c == h) && is_dirty_of f b.entry)
    take_has k h c f (Data l d) e = record { sent = tt; mem = mem; copy = copy; slot = arrive_has k d a.slot e slot }
    take_has k h c f (DataEx l d n) e = record { sent = tt; mem = mem; copy = copy; slot = arrive_own_has d a.slot e slot }
    take_has k h c f (Nak l) e = record { sent = tt; mem = mem; copy = copy; slot = nak_has k a.slot slot }
    take_has k h c f _ e = record { sent = tt; mem = mem; copy = copy; slot = slot }

    again_has : (l : LineId) (h : ℕ) (s : Slot) → DidHas P (again_row l h s a b)
    again_has l h (Reads n t Refused) = record { sent = (tt, tt); mem = mem; copy = copy; slot = tt }
    again_has l h (Owns n t Refused) = record { sent = (tt, tt); mem = mem; copy = copy; slot = tt }
    again_has l h _ = left

    install_has : (s : Slot) → SlotHas P s → DidHas P (install_row s a b)
    install_has (Reads n t (Came d)) e = record { sent = tt; mem = mem; copy = e; slot = tt }
    install_has (Owns n t (Came d)) e = record { sent = tt; mem = mem; copy = e; slot = tt }
    install_has _ e = left

    evict_has : (l : LineId) (h : ℕ) (c : Copy) → CopyHas P c → DidHas P (evict_row l h c a b)
    evict_has l h (Held hs (Some o) d) e = record { sent = (e, tt); mem = mem; copy = tt; slot = slot }
    evict_has l h _ e = left

    act_has : (l : LineId) (h : ℕ) (m : Act) → ((t : ℕ) (d : Line) → m ≡ Commit t d → P d) → DidHas P (act_row l h m a b)
    act_has l h (AskRead n t) g = record { sent = (tt, tt); mem = mem; copy = copy; slot = tt }
    act_has l h (AskOwn n t) g = record { sent = (tt, tt); mem = mem; copy = copy; slot = tt }
    act_has l h Again g = again_has l h a.slot
    act_has l h Install g = install_has a.slot slot
    act_has l h (Commit t d) g = record { sent = tt; mem = mem; copy = commit_has d a.copy (g t d refl) copy; slot = slot }
    act_has l h (Evict t) g = evict_has l h a.copy copy
    act_has l h (Drop t) g = record { sent = tt; mem = mem; copy = drop_has t a.copy copy; slot = slot }
    act_has l h (BusRead t) g = record { sent = tt; mem = mem; copy = bus_read_has t a.copy copy; slot = slot }
    act_has l h (BusOwn t) g = record { sent = tt; mem = mem; copy = bus_own_has t a.copy copy; slot = slot }

  -- steps
  copy_if : (a b : Cell) (i : Bool) → CopyHas P a.copy → CopyHas P b.copy → CopyHas P (cond i a b).copy
  copy_if a b true h k = h
  copy_if a b false h k = k

  slot_if : (a b : Cell) (i : Bool) → SlotHas P a.slot → SlotHas P b.slot → SlotHas P (cond i a b).slot
  slot_if a b true h k = h
  slot_if a b false h k = k

  applied : (i c : ℕ) (d : LineEffect) (net : List Packet) (s : State) → DidHas P d → AllOf (λ p. MsgHas P p.msg) net → Everywhere P s → Everywhere P (apply i c d net s)
  applied i c d net s h k e = record {
    net = all-send (λ p. MsgHas P p.msg) i c net d.sent k h.sent;
    mem = h.mem;
    copy = λ x. copy_if d.cell (s.cells x) (x == c) h.copy (e.copy x);
    slot = λ x. slot_if d.cell (s.cells x) (x == c) h.slot (e.slot x);
  }

  pub take_keeps : (w : Where) (s : State) (i c f u : ℕ) (m : Msg) → head f c (class_of m) s.net ≡ Some (parcel f c m u) → Everywhere P s → Everywhere P (after w s (Takes i c f m))
  take_keeps w s i c f u m first e =
      let has = all-head (λ p. MsgHas P p.msg) f c (class_of m) (parcel f c m u) s.net e.net first in
      applied i c (take_row w.k w.home c f m (s.cells c) s.home) (tail f c (class_of m) s.net) s (take_has (s.cells c) s.home e.mem (e.copy c) (e.slot c) w.k w.home c f m has) (all-tail (λ p. MsgHas P p.msg) f c (class_of m) s.net e.net) e

  pub act_keeps : (w : Where) (s : State) (i c : ℕ) (a : Act) → ((t : ℕ) (d : Line) → a ≡ Commit t d → P d) → Everywhere P s → Everywhere P (after w s (Acts i c a))
  act_keeps w s i c a made e = applied i c (act_row w.line w.home a (s.cells c) s.home) s.net s (act_has (s.cells c) s.home e.mem (e.copy c) (e.slot c) w.line w.home a made) e.net e

-- what has P has Q
copy_map : (P Q : Line → Type 0) → ((d : Line) → P d → Q d) → (c : Copy) → CopyHas P c → CopyHas Q c
copy_map P Q f NoCopy e = tt
copy_map P Q f (Held hs o d) e = f d e

slot_map : (P Q : Line → Type 0) → ((d : Line) → P d → Q d) → (s : Slot) → SlotHas P s → SlotHas Q s
slot_map P Q f (Reads n t (Came d)) e = f d e
slot_map P Q f (Owns n t (Came d)) e = f d e
slot_map P Q f _ e = tt

msg_map : (P Q : Line → Type 0) → ((d : Line) → P d → Q d) → (m : Msg) → MsgHas P m → MsgHas Q m
msg_map P Q f (WriteBack l d) e = f d e
msg_map P Q f (SharingBack l d r) e = f d e
msg_map P Q f (Data l d) e = f d e
msg_map P Q f (DataEx l d n) e = f d e
msg_map P Q f _ e = tt

net_map : (P Q : Line → Type 0) → ((d : Line) → P d → Q d) → (net : List Packet) → AllOf (λ p. MsgHas P p.msg) net → AllOf (λ p. MsgHas Q p.msg) net
net_map P Q f [] e = tt
net_map P Q f (p ∷ ps) e = (msg_map P Q f p.msg e.0, net_map P Q f ps e.1)

everywhere_map : (P Q : Line → Type 0) → ((d : Line) → P d → Q d) → (s : State) → Everywhere P s → Everywhere Q s
everywhere_map P Q f s e = record { net = net_map P Q f s.net e.net; mem = f s.home.mem e.mem; copy = λ x. copy_map P Q f (s.cells x).copy (e.copy x); slot = λ x. slot_map P Q f (s.cells x).slot (e.slot x) }

-- a content is no newer than another
abbrev pub NotNewer : Line → Line → Type 0
NotNewer v d = d.version ≤ v.version

not_older : (d v : Line) (k : Copy) (r : ℕ) → IsNext d k → owner_off k v + r ≡ 0 → v.version ≤ d.version
not_older d v NoCopy r next off = absurd next
not_older d v (Held hs None e) r next off = absurd next
not_older d v (Held hs (Some o) e) r next off =
    let same : e.version ≡ v.version = ap (λ (z : Line). z.version) (off_not v e (omega arith)) in
    let more : e.version ≤ raised most e.version = grind (arith, nat_tests) in
    omega arith

-- each content stays no newer than the current one
pub act_not_newer : (w : Where) (s : State) (v : Line) (i c : ℕ) (a : Act) → MayAct a (s.cells c) → Invariant w.home v s → Everywhere (NotNewer v) s → Everywhere (NotNewer (content_after v a)) (after w s (Acts i c a))
act_not_newer w s v i c (Commit t d) may inv e =
    let more = not_older d v (s.cells c).copy (came_off (s.cells c).slot v) may (inv.known c).contents.owner in
    act_keeps (NotNewer d) w s i c (Commit t d) (λ u x is. let same : d ≡ x = cc in subst (NotNewer d) same (omega arith)) (everywhere_map (NotNewer v) (NotNewer d) (λ x less. omega arith) s e)
act_not_newer w s v i c a may inv e = act_keeps (NotNewer v) w s i c a (λ u x is. absurd (cc)) e
