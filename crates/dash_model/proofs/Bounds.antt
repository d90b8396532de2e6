-- Clusters that are named exist, and no more acknowledgements are announced than there are clusters.
use Rattle.std.proofs.Common.{◌≡◌, ◌⊎◌, ℕ, suc, ◌+◌, ◌≤◌, ◌<◌, ◌==◌, ◌&&◌, Bool, true, false, not, cond, nat_lt, Some, List, [], ◌∷◌, ◌++◌, length, refl, sym, subst, inl, inr, arith}
use Rattle.std.proofs.lemmas.Bool.Decides.{nat_tests}
use Rattle.dash_base.specs.declared.line.Line.{Line}
use Rattle.dash_base.specs.declared.id.LineId.{LineId}
use Rattle.dash_msg.specs.Classes.{class_of}
use Rattle.dash_msg.specs.declared.classes.Class.{Class}
use Rattle.dash_msg.specs.declared.msg.Msg.{Msg}
use Rattle.dash_msg.specs.declared.msg.Msg.TheVariants.{Read, ReadEx, FwdRead, FwdReadEx, Inval, WriteBack, SharingBack, Transfer, Data, DataEx, Ack, TransferAck, Nak}
use Rattle.dash_msg.specs.declared.parcel.Sent.{Sent}
use Rattle.dash_model.specs.Maps.{weigh, without}
use Rattle.dash_model.specs.Net.{Packet, packet, parcel, head, tail, to}
use Rattle.dash_model.specs.Cell.{Copy, Held, Asked, Poisoned, Came, Refused, Slot, Reads, Owns, Acks, NoAcks, Counting, Expects, Entry, Uncached, SharedBy, Dirty, Cell, Home}
use Rattle.dash_model.specs.LineEffect.{LineEffect, still}
use Rattle.dash_model.specs.Replies.{nak_acks, counted, expecting, expecting_for}
use Rattle.dash_model.specs.Requests.{read_row, own_row, give_read, give_own, is_dirty_of, write_back_row, sharing_back_row, transfer_row, invals_to}
use Rattle.dash_model.specs.Acts.{Act, AskRead, AskOwn, Again, Install, Commit, Evict, Drop, BusRead, BusOwn, owe, again_row, install_row, evict_row, act_row}
use Rattle.dash_model.specs.LineRows.{take_row}
use Rattle.dash_model.specs.OnLine.{brings_msg, counts_to_msg, brings, counts_to}
use Rattle.dash_model.proofs.LineState.{State, Where, Acts, Takes, apply, after}
use Rattle.dash_model.proofs.Weigh.{weigh-only}
use Rattle.dash_model.proofs.OnNet.{AllOf, AllSent, all-head, all-tail, all-send}
use Rattle.dash_model.proofs.Rows.{brings_counts}
use Rattle.dash_model.proofs.RowsAlong.{home_act}
use Rattle.dash_model.proofs.EntryBounds.{strict-length, EntryBounded, SharesIn, take_entry}

without_tail : (c : ℕ) (cs : List ℕ) (i : Bool) (m : ℕ) → length cs ≤ m → length (cond i (c ∷ cs) cs) ≤ suc m
without_tail c cs true m h = omega arith
without_tail c cs false m h = omega arith

pub without-length : (f : ℕ) (cs : List ℕ) → length (without f cs) ≤ length cs
unfolding without
without-length f [] = omega arith
without-length f (c ∷ cs) = without_tail c (without f cs) (not (c == f)) (length cs) (without-length f cs)

-- what a message names is in range, in a machine of n clusters
abbrev pub Named : ℕ → Msg → Type 0
Named n (FwdRead l r) = r.0 < n
Named n (FwdReadEx l r) = r.0 < n
Named n (Inval l r) = r.0 < n
Named n (SharingBack l d r) = r.0 < n
Named n (Transfer l r) = r.0 < n
Named n (DataEx l d count) = count ≤ n
Named n m = Unit {0}

abbrev pub PacketNamed : ℕ → Packet → Type 0
PacketNamed n p = (p.src < n) × Named n p.msg

abbrev pub SentNamed : ℕ → List Sent → Type 0
SentNamed n = AllSent (λ x. Named n x.msg)

abbrev pub AcksBounded : ℕ → Acks → Type 0
AcksBounded n (Expects m g o) = m ≤ n
AcksBounded n a = Unit {0}

pub record Bounded (n : ℕ) (s : State) : Type 0 where
  pub net : AllOf (PacketNamed n) s.net
  pub entry : EntryBounded n s.home.entry
  pub acks : (x : ℕ) → AcksBounded n (s.cells x).acks

pub record DidBounded (n : ℕ) (d : LineEffect) : Type 0 where
  pub sent : SentNamed n d.sent
  pub acks : AcksBounded n d.cell.acks

-- lists of messages
pub named-head : (n a b : ℕ) (k : Class) (q : Packet) (net : List Packet) → AllOf (PacketNamed n) net → head a b k net ≡ Some q → PacketNamed n q
named-head n = all-head (PacketNamed n)

named-sent : (n t a : ℕ) (xs : List Sent) → a < n → SentNamed n xs → AllSent (λ x. PacketNamed n (packet t a x)) xs
named-sent n t a [] l h = tt
named-sent n t a (x ∷ xs) l h = ((l, h.0), named-sent n t a xs l h.1)

sent-invals : (n : ℕ) (l : LineId) (r : ℕ) (cs : List ℕ) (m : Msg) (c : ℕ) → r < n → Named n m → SentNamed n (invals_to l r cs ++ (to c m ∷ []))
unfolding invals_to
sent-invals n l r [] m c b h = (h, tt)
sent-invals n l r (x ∷ xs) m c b h = (b, sent-invals n l r xs m c b h)

-- rows
read_bound : (n : ℕ) (l : LineId) (f : ℕ) (e : Entry) (a : Cell) (b : Home) → f < n → AcksBounded n a.acks
    → DidBounded n (read_row l f e a b)
read_bound n l f Uncached a b h k = record { sent = (tt, tt); acks = k }
read_bound n l f (SharedBy cs) a b h k = record { sent = (tt, tt); acks = k }
read_bound n l f (Dirty o) a b h k = record { sent = (h, tt); acks = k }

own_bound : (n : ℕ) (l : LineId) (f : ℕ) (e : Entry) (a : Cell) (b : Home) → f < n → EntryBounded n e → AcksBounded n a.acks
    → DidBounded n (own_row l f e a b)
own_bound n l f Uncached a b h e k = record { sent = (omega arith, tt); acks = k }
own_bound n l f (SharedBy cs) a b h e k =
    let all = strict-length 0 n cs e in
    let some = without-length f cs in
    let fits : length (without f cs) ≤ n = omega arith in
    record { sent = sent-invals n l f (without f cs) (DataEx l b.mem (length (without f cs))) f h fits; acks = k }
own_bound n l f (Dirty o) a b h e k = record { sent = (h, tt); acks = k }

give_read_bound : (n : ℕ) (l : LineId) (h r : ℕ) (c : Copy) (k : Acks) (a : Cell) (b : Home) → r < n → AcksBounded n a.acks
    → DidBounded n (give_read l h r c k a b)
give_read_bound n l h r (Held hs (Some o) d) NoAcks a b f g = record { sent = (tt, (f, tt)); acks = g }
give_read_bound n l h r _ _ a b f g = record { sent = (tt, tt); acks = g }

give_own_bound : (n : ℕ) (l : LineId) (h r : ℕ) (c : Copy) (k : Acks) (a : Cell) (b : Home) → r < n → AcksBounded n a.acks
    → DidBounded n (give_own l h r c k a b)
give_own_bound n l h r (Held hs (Some o) d) NoAcks a b f g = record { sent = (omega arith, (f, tt)); acks = g }
give_own_bound n l h r _ _ a b f g = record { sent = (tt, tt); acks = g }

write_back_bound : (n : ℕ) (d : Line) (i : Bool) (a : Cell) (b : Home) → AcksBounded n a.acks
    → DidBounded n (write_back_row d i a b)
write_back_bound n d true a b g = record { sent = tt; acks = g }
write_back_bound n d false a b g = record { sent = tt; acks = g }

sharing_back_bound : (n f : ℕ) (d : Line) (r : ℕ) (i : Bool) (a : Cell) (b : Home) → AcksBounded n a.acks
    → DidBounded n (sharing_back_row f d r i a b)
sharing_back_bound n f d r true a b g = record { sent = tt; acks = g }
sharing_back_bound n f d r false a b g = record { sent = tt; acks = g }

transfer_bound : (n : ℕ) (l : LineId) (r : ℕ) (i : Bool) (a : Cell) (b : Home) → AcksBounded n a.acks
    → DidBounded n (transfer_row l r i a b)
transfer_bound n l r true a b g = record { sent = (tt, tt); acks = g }
transfer_bound n l r false a b g = record { sent = tt; acks = g }

cond_bound : (n : ℕ) (i : Bool) (d e : LineEffect) → DidBounded n d → DidBounded n e → DidBounded n (cond i d e)
cond_bound n true d e h k = h
cond_bound n false d e h k = k

expects_if : (n m g : ℕ) (o : List ℕ) (i : Bool) → m ≤ n → AcksBounded n (cond i NoAcks (Expects m g o))
expects_if n m g o true h = tt
expects_if n m g o false h = h

expecting_bound : (n m : ℕ) (a : Acks) → m ≤ n → AcksBounded n (expecting m a)
expecting_bound n m NoAcks h = tt
expecting_bound n m (Counting g o) h = expects_if n m g o (g == m) h
expecting_bound n m (Expects k g o) h = expects_if n m g o (g == m) h

expecting_for_bound : (n m : ℕ) (s : Slot) (a : Acks) → m ≤ n → AcksBounded n a → AcksBounded n (expecting_for m s a)
expecting_for_bound n m (Owns k h Asked) a b g = expecting_bound n m a b
expecting_for_bound n m _ a b g = g

counted_bound : (n : ℕ) (a : Acks) → AcksBounded n a → AcksBounded n (counted a)
counted_bound n NoAcks h = tt
counted_bound n (Counting g o) h = tt
counted_bound n (Expects m g o) h = expects_if n m (g + 1) o (g + 1 == m) h

none_if : (n : ℕ) (a : Acks) (i : Bool) → AcksBounded n a → AcksBounded n (cond i a NoAcks)
none_if n a true h = h
none_if n a false h = tt

nak_bound : (n k : ℕ) (s : Slot) (a : Acks) → AcksBounded n a → AcksBounded n (nak_acks k s a)
nak_bound n k (Owns i h Asked) a b = none_if n a (nat_lt i k) b
nak_bound n k (Owns i h Poisoned) a b = none_if n a (nat_lt i k) b
nak_bound n k _ a b = b

owe_bound : (n t : ℕ) (a : Acks) → AcksBounded n a → AcksBounded n (owe t a)
owe_bound n t NoAcks h = h
owe_bound n t (Counting g o) h = h
owe_bound n t (Expects m g o) h = h

take_bound : (n k h c f : ℕ) (m : Msg) (a : Cell) (b : Home) → f < n → Named n m → EntryBounded n b.entry → AcksBounded n a.acks
    → DidBounded n (take_row k h c f m a b)
take_bound n k h c f (Read l) a b s i e g =
    cond_bound n (c == h) (read_row l f b.entry a b) (still a b) (read_bound n l f b.entry a b s g) (record { sent = tt; acks = g })
take_bound n k h c f (ReadEx l) a b s i e g =
    cond_bound n (c == h) (own_row l f b.entry a b) (still a b) (own_bound n l f b.entry a b s e g) (record { sent = tt; acks = g })
take_bound n k h c f (FwdRead l r) a b s i e g = give_read_bound n l h r.0 a.copy a.acks a b i g
take_bound n k h c f (FwdReadEx l r) a b s i e g = give_own_bound n l h r.0 a.copy a.acks a b i g
take_bound n k h c f (Inval l r) a b s i e g = record { sent = (tt, tt); acks = g }
take_bound n k h c f (WriteBack l d) a b s i e g = write_back_bound n d ((c == h) && is_dirty_of f b.entry) a b g
take_bound n k h c f (SharingBack l d r) a b s i e g = sharing_back_bound n f d r.0 ((c == h) && is_dirty_of f b.entry) a b g
take_bound n k h c f (Transfer l r) a b s i e g = transfer_bound n l r.0 ((c == h) && is_dirty_of f b.entry) a b g
take_bound n k h c f (Data l d) a b s i e g = record { sent = tt; acks = g }
take_bound n k h c f (DataEx l d m) a b s i e g = record { sent = tt; acks = expecting_for_bound n m a.slot a.acks i g }
take_bound n k h c f (Ack l) a b s i e g = record { sent = tt; acks = counted_bound n a.acks g }
take_bound n k h c f (TransferAck l) a b s i e g = record { sent = tt; acks = counted_bound n a.acks g }
take_bound n k h c f (Nak l) a b s i e g = record { sent = tt; acks = nak_bound n k a.slot a.acks g }
take_bound n k h c f _ a b s i e g = record { sent = tt; acks = g }

again_bound : (n : ℕ) (l : LineId) (h : ℕ) (s : Slot) (a : Cell) (b : Home) → AcksBounded n a.acks
    → DidBounded n (again_row l h s a b)
again_bound n l h (Reads i t Refused) a b g = record { sent = (tt, tt); acks = g }
again_bound n l h (Owns i t Refused) a b g = record { sent = (tt, tt); acks = g }
again_bound n l h _ a b g = record { sent = tt; acks = g }

install_bound : (n : ℕ) (s : Slot) (a : Cell) (b : Home) → AcksBounded n a.acks → DidBounded n (install_row s a b)
install_bound n (Reads i t (Came d)) a b g = record { sent = tt; acks = g }
install_bound n (Owns i t (Came d)) a b g = record { sent = tt; acks = g }
install_bound n _ a b g = record { sent = tt; acks = g }

evict_bound : (n : ℕ) (l : LineId) (h : ℕ) (c : Copy) (a : Cell) (b : Home) → AcksBounded n a.acks
    → DidBounded n (evict_row l h c a b)
evict_bound n l h (Held hs (Some o) d) a b g = record { sent = (tt, tt); acks = g }
evict_bound n l h _ a b g = record { sent = tt; acks = g }

act_bound : (n : ℕ) (l : LineId) (h : ℕ) (m : Act) (a : Cell) (b : Home) → AcksBounded n a.acks
    → DidBounded n (act_row l h m a b)
act_bound n l h (AskRead i t) a b g = record { sent = (tt, tt); acks = g }
act_bound n l h (AskOwn i t) a b g = record { sent = (tt, tt); acks = tt }
act_bound n l h Again a b g = again_bound n l h a.slot a b g
act_bound n l h Install a b g = install_bound n a.slot a b g
act_bound n l h (Commit t d) a b g = record { sent = tt; acks = owe_bound n t a.acks g }
act_bound n l h (Evict t) a b g = evict_bound n l h a.copy a b g
act_bound n l h (Drop t) a b g = record { sent = tt; acks = g }
act_bound n l h (BusRead t) a b g = record { sent = tt; acks = g }
act_bound n l h (BusOwn t) a b g = record { sent = tt; acks = g }

-- steps
acks_if : (n : ℕ) (a b : Cell) (i : Bool) → AcksBounded n a.acks → AcksBounded n b.acks → AcksBounded n (cond i a b).acks
acks_if n a b true h k = h
acks_if n a b false h k = k

apply_bound : (n i c : ℕ) (d : LineEffect) (net : List Packet) (s : State) → c < n → DidBounded n d → EntryBounded n d.home.entry → AllOf (PacketNamed n) net → Bounded n s
    → Bounded n (apply i c d net s)
apply_bound n i c d net s l h e k b = record {
  net = all-send (PacketNamed n) i c net d.sent k (named-sent n i c d.sent l h.sent);
  entry = e;
  acks = λ x. acks_if n d.cell (s.cells x) (x == c) h.acks (b.acks x);
}

named_shares : (n : ℕ) (m : Msg) → Named n m → SharesIn n m
named_shares n (SharingBack l d r) i = i
named_shares n _ i = tt

pub take_bounded : (n : ℕ) (w : Where) (s : State) (i c f u : ℕ) (m : Msg) → c < n → head f c (class_of m) s.net ≡ Some (parcel f c m u) → Bounded n s
    → Bounded n (after w s (Takes i c f m))
take_bounded n w s i c f u m l first b =
    let q = named-head n f c (class_of m) (parcel f c m u) s.net b.net first in
    apply_bound n i c (take_row w.k w.home c f m (s.cells c) s.home) (tail f c (class_of m) s.net) s l (take_bound n w.k w.home c f m (s.cells c) s.home q.0 q.1 b.entry (b.acks c)) (take_entry n w.k w.home c f m (s.cells c) s.home q.0 (named_shares n m q.1) b.entry) (all-tail (PacketNamed n) f c (class_of m) s.net b.net) b

pub act_bounded : (n : ℕ) (w : Where) (s : State) (i c : ℕ) (a : Act) → c < n → Bounded n s → Bounded n (after w s (Acts i c a))
act_bounded n w s i c a l b =
    apply_bound n i c (act_row w.line w.home a (s.cells c) s.home) s.net s l (act_bound n w.line w.home a (s.cells c) s.home (b.acks c)) (subst (λ (x : Home). EntryBounded n x.entry) (sym (home_act w.line w.home a (s.cells c) s.home)) b.entry) b.net b

-- what is announced to a cluster, by one DataEx at most
one_count : (n x a b : ℕ) (m : Msg) → Named n m
    → ((brings_msg x a b m ≡ 0) × (counts_to_msg x a b m ≡ 0)) ⊎ ((brings_msg x a b m ≡ 1) × (counts_to_msg x a b m ≤ n))
one_count n x a b (DataEx l d m) h = grind (arith, nat_tests)
one_count n x a b _ h = inl (refl, refl)

none_counts : (x : ℕ) (net : List Packet) → weigh (brings x) net ≡ 0 → weigh (counts_to x) net ≡ 0
none_counts x net e = weigh-only (brings x) (counts_to x) (brings_counts x) net e

announced_by : (n x : ℕ) (p : Packet) (ps : List Packet) → ((brings x p ≡ 0) × (counts_to x p ≡ 0)) ⊎ ((brings x p ≡ 1) × (counts_to x p ≤ n))
    → brings x p + weigh (brings x) ps ≤ 1 → (weigh (brings x) ps ≤ 1 → weigh (counts_to x) ps ≤ n)
    → (weigh (brings x) ps ≡ 0 → weigh (counts_to x) ps ≡ 0) → counts_to x p + weigh (counts_to x) ps ≤ n
announced_by n x p ps (inl e) l ih none = let a = e.0 in let b = e.1 in let c = ih (omega arith) in omega arith
announced_by n x p ps (inr e) l ih none = let a = e.0 in let b = e.1 in let c = none (omega arith) in omega arith

pub announced : (n x : ℕ) (net : List Packet) → AllOf (PacketNamed n) net → weigh (brings x) net ≤ 1 → weigh (counts_to x) net ≤ n
unfolding weigh
announced n x [] h l = omega arith
announced n x (p ∷ ps) h l = announced_by n x p ps (one_count n x p.src p.dst p.msg h.0.1) l (announced n x ps h.1) (none_counts x ps)
