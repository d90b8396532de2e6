-- An owner's cluster has no slot that is to own the line.
use Rattle.std.proofs.Common.{◌≡◌, ℕ, ◌+◌, ◌≤◌, ◌==◌, ◌&&◌, Bool, true, false, cond, nat_lt, None, Some, List, [], ◌∷◌, refl, arith}
use Rattle.dash_base.specs.declared.id.LineId.{LineId}
use Rattle.dash_base.specs.declared.line.Line.{Line}
use Rattle.dash_msg.specs.declared.msg.Msg.{Msg}
use Rattle.dash_msg.specs.declared.msg.Msg.TheVariants.{Read, ReadEx, FwdRead, FwdReadEx, Inval, WriteBack, SharingBack, Transfer, Data, DataEx, Ack, TransferAck, Nak}
use Rattle.dash_model.specs.Maps.{without}
use Rattle.dash_model.specs.Cell.{Copy, NoCopy, Held, Asked, Poisoned, Came, Refused, Slot, NoSlot, Reads, Owns, Acks, NoAcks, Entry, Uncached, SharedBy, Dirty, Cell, Home}
use Rattle.dash_model.specs.OnLine.{owned}
use Rattle.dash_model.specs.LineEffect.{LineEffect, still, refuse, has_owner}
use Rattle.dash_model.specs.Acts.{Act, AskRead, AskOwn, Again, Install, Commit, Evict, Drop, BusRead, BusOwn, act_row, again_row, install_row, evict_row, commit_copy, drop_hart, bus_read, bus_own, shrunk}
use Rattle.dash_model.specs.Requests.{read_row, own_row, give_read, give_own, poison, is_dirty_of, write_back_row, sharing_back_row, transfer_row}
use Rattle.dash_model.specs.Replies.{arrive, arrive_own, nak_slot}
use Rattle.dash_model.specs.LineRows.{take_row}
use Rattle.dash_model.proofs.LineState.{MayAct}

abbrev pub is_owns : Slot → ℕ
is_owns (Owns n t p) = 1
is_owns _ = 0

abbrev pub Alone : Cell → Type 0
Alone a = owned a.copy + is_owns a.slot ≤ 1

again_alone : (l : LineId) (h : ℕ) (s : Slot) (a : Cell) (b : Home) → a.slot ≡ s → Alone a → Alone (again_row l h s a b).cell
again_alone l h s a b e k = grind (arith)

install_alone : (s : Slot) (a : Cell) (b : Home) → a.slot ≡ s → Alone a → Alone (install_row s a b).cell
install_alone (Reads n t (Came d)) a b e k = omega arith
install_alone (Owns n t (Came d)) a b e k = omega arith
install_alone _ a b e k = k

evict_alone : (l : LineId) (h : ℕ) (c : Copy) (a : Cell) (b : Home) → a.copy ≡ c → Alone a → Alone (evict_row l h c a b).cell
evict_alone l h (Held hs (Some o) d) a b e k = grind arith
evict_alone l h _ a b e k = k

pub no_owner : (c : Copy) → has_owner c ≡ false → owned c ≡ 0
no_owner (Held hs (Some o) d) e = absurd (cc)
no_owner (Held hs None d) e = refl
no_owner NoCopy e = refl

pub commit_owned : (d : Line) (c : Copy) → owned (commit_copy d c) ≡ owned c
commit_owned d (Held hs (Some o) e) = refl
commit_owned d (Held hs None e) = refl
commit_owned d NoCopy = refl

shrunk_owned : (hs : List ℕ) (d : Line) → owned (shrunk hs d) ≡ 0
shrunk_owned [] d = refl
shrunk_owned (h ∷ hs) d = refl

drop_owned : (t : ℕ) (c : Copy) → owned (drop_hart t c) ≡ owned c
drop_owned t (Held hs (Some o) e) = refl
drop_owned t (Held hs None e) = shrunk_owned (without t hs) e
drop_owned t NoCopy = refl

bus_read_owned : (t : ℕ) (c : Copy) → owned (bus_read t c) ≡ owned c
bus_read_owned t (Held hs (Some o) e) = refl
bus_read_owned t (Held hs None e) = refl
bus_read_owned t NoCopy = refl

bus_own_owned : (t : ℕ) (c : Copy) → owned (bus_own t c) ≡ owned c
bus_own_owned t (Held hs (Some o) e) = refl
bus_own_owned t (Held hs None e) = refl
bus_own_owned t NoCopy = refl

pub act_alone : (l : LineId) (h : ℕ) (y : Act) (a : Cell) (b : Home) → MayAct y a → Alone a → Alone (act_row l h y a b).cell
act_alone l h (AskRead n t) a b may k = omega arith
act_alone l h (AskOwn n t) a b may k = let z = no_owner a.copy may.1 in omega arith
act_alone l h Again a b may k = again_alone l h a.slot a b refl k
act_alone l h Install a b may k = install_alone a.slot a b refl k
act_alone l h (Commit t d) a b may k = let z = commit_owned d a.copy in omega arith
act_alone l h (Evict t) a b may k = evict_alone l h a.copy a b refl k
act_alone l h (Drop t) a b may k = let z = drop_owned t a.copy in omega arith
act_alone l h (BusRead t) a b may k = let z = bus_read_owned t a.copy in omega arith
act_alone l h (BusOwn t) a b may k = let z = bus_own_owned t a.copy in omega arith

-- messages
cond_alone : (i : Bool) (d e : LineEffect) → Alone d.cell → Alone e.cell → Alone (cond i d e).cell
cond_alone true d e x y = x
cond_alone false d e x y = y

read_alone : (l : LineId) (f : ℕ) (e : Entry) (a : Cell) (b : Home) → Alone a → Alone (read_row l f e a b).cell
read_alone l f Uncached a b k = k
read_alone l f (SharedBy cs) a b k = k
read_alone l f (Dirty o) a b k = k

own_alone : (l : LineId) (f : ℕ) (e : Entry) (a : Cell) (b : Home) → Alone a → Alone (own_row l f e a b).cell
own_alone l f Uncached a b k = k
own_alone l f (SharedBy cs) a b k = k
own_alone l f (Dirty o) a b k = k

give_read_alone : (l : LineId) (h r : ℕ) (c : Copy) (s : Acks) (a : Cell) (b : Home) → Alone a → Alone (give_read l h r c s a b).cell
give_read_alone l h r (Held hs (Some o) d) NoAcks a b k = omega arith
give_read_alone l h r _ _ a b k = k

give_own_alone : (l : LineId) (h r : ℕ) (c : Copy) (s : Acks) (a : Cell) (b : Home) → Alone a → Alone (give_own l h r c s a b).cell
give_own_alone l h r (Held hs (Some o) d) NoAcks a b k = omega arith
give_own_alone l h r _ _ a b k = k

write_back_alone : (d : Line) (i : Bool) (a : Cell) (b : Home) → Alone a → Alone (write_back_row d i a b).cell
write_back_alone d true a b k = k
write_back_alone d false a b k = k

sharing_back_alone : (f : ℕ) (d : Line) (r : ℕ) (i : Bool) (a : Cell) (b : Home) → Alone a → Alone (sharing_back_row f d r i a b).cell
sharing_back_alone f d r true a b k = k
sharing_back_alone f d r false a b k = k

transfer_alone : (l : LineId) (r : ℕ) (i : Bool) (a : Cell) (b : Home) → Alone a → Alone (transfer_row l r i a b).cell
transfer_alone l r true a b k = k
transfer_alone l r false a b k = k

refuse_if : (i : Bool) (s : Slot) (n : ℕ) → is_owns s ≤ n → is_owns (cond i s NoSlot) ≤ n
refuse_if true s n e = e
refuse_if false s n e = omega arith

refuse_owns : (k : ℕ) (s : Slot) → is_owns (refuse k s) ≤ is_owns s
refuse_owns k NoSlot = omega arith
refuse_owns k (Reads n t p) = refuse_if (nat_lt n k) (Reads n t Refused) 0 (omega arith)
refuse_owns k (Owns n t p) = refuse_if (nat_lt n k) (Owns n t Refused) 1 (omega arith)

poison_owns : (k : ℕ) (s : Slot) → is_owns (poison k s) ≤ is_owns s
poison_owns k (Reads n t (Came d)) = refuse_owns k (Reads n t (Came d))
poison_owns k (Reads n t Asked) = omega arith
poison_owns k _ = omega arith

arrive_owns : (k : ℕ) (d : Line) (s : Slot) → is_owns (arrive k d s) ≤ is_owns s
arrive_owns k d (Reads n t Asked) = omega arith
arrive_owns k d (Reads n t Poisoned) = refuse_owns k (Reads n t Poisoned)
arrive_owns k d _ = omega arith

arrive_own_owns : (d : Line) (s : Slot) → is_owns (arrive_own d s) ≤ is_owns s
arrive_own_owns d (Owns n t Asked) = omega arith
arrive_own_owns d _ = omega arith

nak_owns : (k : ℕ) (s : Slot) → is_owns (nak_slot k s) ≤ is_owns s
nak_owns k (Reads n t Asked) = refuse_owns k (Reads n t Asked)
nak_owns k (Reads n t Poisoned) = refuse_owns k (Reads n t Poisoned)
nak_owns k (Owns n t Asked) = refuse_owns k (Owns n t Asked)
nak_owns k (Owns n t Poisoned) = refuse_owns k (Owns n t Poisoned)
nak_owns k _ = omega arith

pub take_alone : (k h c f : ℕ) (m : Msg) (a : Cell) (b : Home) → Alone a → Alone (take_row k h c f m a b).cell
take_alone k h c f (Read l) a b s = cond_alone (c == h) (read_row l f b.entry a b) (still a b) (read_alone l f b.entry a b s) s
take_alone k h c f (ReadEx l) a b s = cond_alone (c == h) (own_row l f b.entry a b) (still a b) (own_alone l f b.entry a b s) s
take_alone k h c f (FwdRead l r) a b s = give_read_alone l h r.0 a.copy a.acks a b s
take_alone k h c f (FwdReadEx l r) a b s = give_own_alone l h r.0 a.copy a.acks a b s
take_alone k h c f (Inval l r) a b s = let z = poison_owns k a.slot in omega arith
take_alone k h c f (WriteBack l d) a b s = write_back_alone d ((c == h) && is_dirty_of f b.entry) a b s
take_alone k h c f (SharingBack l d r) a b s = sharing_back_alone f d r.0 ((c == h) && is_dirty_of f b.entry) a b s
take_alone k h c f (Transfer l r) a b s = transfer_alone l r.0 ((c == h) && is_dirty_of f b.entry) a b s
take_alone k h c f (Data l d) a b s = let z = arrive_owns k d a.slot in omega arith
take_alone k h c f (DataEx l d n) a b s = let z = arrive_own_owns d a.slot in omega arith
take_alone k h c f (Ack l) a b s = s
take_alone k h c f (TransferAck l) a b s = s
take_alone k h c f (Nak l) a b s = let z = nak_owns k a.slot in omega arith
take_alone k h c f _ a b s = s
