-- The parts of the invariant of a line: weights of messages, where the token is, and what holds of each cluster.
use Rattle.std.specs.Prelude.{◌≡◌, ◌⊎◌, ℕ, ◌+◌, ◌≤◌, ◌<◌, ◌==◌, cond, None, Some}
use Rattle.dash_base.specs.declared.line.Line.{Line}
use Rattle.dash_msg.specs.declared.msg.Msg.{Msg}
use Rattle.dash_msg.specs.declared.msg.Msg.TheVariants.{Read, ReadEx, FwdRead, FwdReadEx, Inval, WriteBack, SharingBack, Transfer, TransferAck, Data, DataEx}
use Rattle.dash_model.specs.Maps.{weigh, member}
use Rattle.dash_model.specs.Net.{Packet}
use Rattle.dash_model.specs.OnLine.{came_own, owned, clean, one, reads, datas, wants, brings, naks, gives_back, leaves, gains, invals, invals_at, acks_to, counts_to, shares}
use Rattle.dash_model.specs.Cell.{Copy, NoCopy, Held, Asked, Poisoned, Came, Refused, Slot, Reads, Owns, Acks, NoAcks, Counting, Expects, Entry, SharedBy, Dirty}
use Rattle.dash_model.proofs.LineState.{State}
use Rattle.dash_model.proofs.SameLine.{same_line}

-- of a message from a to b: 1 where it invalidates x on behalf of x
abbrev pub own_invals_msg : ℕ → ℕ → ℕ → Msg → ℕ
own_invals_msg x a b (Inval l r) = cond (b == x) (one r.0 x) 0
own_invals_msg x a b _ = 0

-- 1 where it is for home h and goes elsewhere, or what h alone sends and comes from elsewhere
abbrev pub misrouted_msg : ℕ → ℕ → ℕ → Msg → ℕ
misrouted_msg h a b (Read l) = cond (b == h) 0 1
misrouted_msg h a b (ReadEx l) = cond (b == h) 0 1
misrouted_msg h a b (WriteBack l d) = cond (b == h) 0 1
misrouted_msg h a b (SharingBack l d r) = cond (b == h) 0 1
misrouted_msg h a b (Transfer l r) = cond (b == h) 0 1
misrouted_msg h a b (FwdRead l r) = cond (a == h) 0 1
misrouted_msg h a b (FwdReadEx l r) = cond (a == h) 0 1
misrouted_msg h a b (Inval l r) = cond (a == h) 0 1
misrouted_msg h a b (TransferAck l) = cond (a == h) 0 1
misrouted_msg h a b _ = 0

-- 1 where it carries a line back
abbrev pub back_any_msg : Msg → ℕ
back_any_msg (WriteBack l d) = 1
back_any_msg (SharingBack l d r) = 1
back_any_msg _ = 0

-- the same of packets
abbrev pub own_invals : ℕ → Packet → ℕ
own_invals x p = own_invals_msg x p.src p.dst p.msg

abbrev pub misrouted : ℕ → Packet → ℕ
misrouted h p = misrouted_msg h p.src p.dst p.msg

abbrev pub back_any : Packet → ℕ
back_any p = back_any_msg p.msg

-- where the token is: at home, at an owner or on its way to it, on its way back from one, or passed on from one to another
pub data Place : Type 0 where
  AtHome : Place
  At : (o : ℕ) → Place
  Back : (o : ℕ) → Place
  Moving : (o r : ℕ) → Place

abbrev pub holds : Place → ℕ → ℕ
holds (At o) x = one o x
holds (Moving o r) x = one r x
holds _ x = 0

abbrev pub returns : Place → ℕ → ℕ
returns (Back o) x = one o x
returns _ x = 0

abbrev pub moves_from : Place → ℕ → ℕ
moves_from (Moving o r) x = one o x
moves_from _ x = 0

abbrev pub moves_to : Place → ℕ → ℕ
moves_to (Moving o r) x = one r x
moves_to _ x = 0

abbrev pub owner_in : Place → ℕ → ℕ
owner_in AtHome x = 0
owner_in (At o) x = one o x
owner_in (Back o) x = one o x
owner_in (Moving o r) x = one o x

abbrev pub at_home : Place → ℕ
at_home AtHome = 1
at_home _ = 0

abbrev pub is_back : Place → ℕ
is_back (Back o) = 1
is_back _ = 0

-- numbers of a cell
abbrev pub waits_read : Slot → ℕ
waits_read (Reads n t Asked) = 1
waits_read (Reads n t Poisoned) = 1
waits_read _ = 0

abbrev pub waits_own : Slot → ℕ
waits_own (Owns n t Asked) = 1
waits_own _ = 0

abbrev pub is_reading : Slot → ℕ
is_reading (Reads n t s) = 1
is_reading _ = 0

abbrev pub came_read : Slot → ℕ
came_read (Reads n t (Came d)) = 1
came_read _ = 0

abbrev pub held : Copy → ℕ
held NoCopy = 0
held (Held hs o d) = 1

abbrev pub dirty_of : Entry → ℕ → ℕ
dirty_of (Dirty o) x = one o x
dirty_of _ x = 0

abbrev pub marked : ℕ → Entry → ℕ
marked x (SharedBy cs) = cond (member x cs) 1 0
marked x _ = 0

-- the number, where the slot still waits for data to read
abbrev pub asked : Slot → ℕ → ℕ
asked (Reads n t Asked) d = d
asked _ d = 0

-- requests
pub record Requests (s : State) (h x : ℕ) : Type 0 where
  pub read : weigh (reads x) s.net + weigh (datas x) s.net ≤ waits_read (s.cells x).slot
  pub own : weigh (wants x) s.net + weigh (brings x) s.net ≤ waits_own (s.cells x).slot
  pub all : weigh (reads x) s.net + weigh (datas x) s.net + weigh (wants x) s.net + weigh (brings x) s.net + weigh (naks x) s.net ≡ waits_read (s.cells x).slot + waits_own (s.cells x).slot
  pub reading : is_reading (s.cells x).slot + held (s.cells x).copy ≤ 1
  pub routed : weigh (misrouted h) s.net ≡ 0

-- the token, and the entry
pub record Tokens (s : State) (p : Place) (x : ℕ) : Type 0 where
  pub token : owned (s.cells x).copy + came_own (s.cells x).slot + weigh (brings x) s.net ≡ holds p x
  pub back : weigh (gives_back x) s.net ≡ returns p x
  pub leaving : weigh (leaves x) s.net ≡ moves_from p x
  pub gaining : weigh (gains x) s.net ≡ moves_to p x
  pub entry : dirty_of s.home.entry x ≡ owner_in p x
  pub home : clean s.home.entry ≡ at_home p
  pub backs : weigh back_any s.net ≡ is_back p

-- one epoch of invalidations
pub record Epoch (s : State) (p : Place) (x : ℕ) : Type 0 where
  pub one_owner : (weigh (invals x) s.net ≡ 0) ⊎ (p ≡ At x)
  pub others : weigh (own_invals x) s.net ≡ 0

-- counts: a messages count for the cluster, d are announced on their way to it, and h says whether it holds the token
abbrev pub Counted : Slot → Acks → ℕ → ℕ → ℕ → Type 0
Counted (Owns n t Asked) (Counting g o) a d h = g + a ≡ d
Counted (Owns n t Asked) _ a d h = ⊥
Counted (Owns n t Refused) (Counting g o) a d h = (g + a ≡ 0) × (d ≡ 0)
Counted (Owns n t Refused) _ a d h = ⊥
Counted (Owns n t Poisoned) _ a d h = ⊥
Counted _ NoAcks a d h = (a ≡ 0) × (d ≡ 0)
Counted _ (Counting g o) a d h = ⊥
Counted _ (Expects n g o) a d h = (g + a ≡ n) × (g < n) × (d ≡ 0) × (h ≡ 1)

abbrev pub counting : ℕ → State → ℕ
counting x s = weigh (invals x) s.net + weigh (acks_to x) s.net + weigh (gains x) s.net

pub record Facts (h : ℕ) (s : State) (p : Place) (x : ℕ) : Type 0 where
  pub requests : Requests s h x
  pub tokens : Tokens s p x
  pub epoch : Epoch s p x
  pub counts : Counted (s.cells x).slot (s.cells x).acks (counting x s) (weigh (counts_to x) s.net) (holds p x)

-- what of the line a cluster has to read from, or is to get
abbrev pub things : State → ℕ → ℕ
things s x = held (s.cells x).copy + came_read (s.cells x).slot + asked (s.cells x).slot (weigh (datas x) s.net)

-- coverage
abbrev pub Cover : State → Place → ℕ → Type 0
Cover s p x = (holds p x ≡ 1) ⊎ ((things s x ≡ 0) ⊎ (1 ≤ marked x s.home.entry + weigh (shares x) s.net + weigh (invals_at x) s.net))

-- weights of messages that carry another content than v
abbrev pub other : Line → Line → ℕ
other v d = cond (same_line v d) 0 1

abbrev pub old_brings_msg : Line → ℕ → ℕ → ℕ → Msg → ℕ
old_brings_msg v x a b (DataEx l d n) = cond (b == x) (other v d) 0
old_brings_msg v x a b _ = 0

abbrev pub old_backs_msg : Line → ℕ → ℕ → ℕ → Msg → ℕ
old_backs_msg v x a b (WriteBack l d) = cond (a == x) (other v d) 0
old_backs_msg v x a b (SharingBack l d r) = cond (a == x) (other v d) 0
old_backs_msg v x a b _ = 0

abbrev pub old_brings : Line → ℕ → Packet → ℕ
old_brings v x p = old_brings_msg v x p.src p.dst p.msg

abbrev pub old_backs : Line → ℕ → Packet → ℕ
old_backs v x p = old_backs_msg v x p.src p.dst p.msg

abbrev pub owner_off : Copy → Line → ℕ
owner_off (Held hs (Some o) d) v = other v d
owner_off _ v = 0

abbrev pub came_off : Slot → Line → ℕ
came_off (Owns n t (Came d)) v = other v d
came_off _ v = 0

-- a weight of contents, of what a cluster has to read from that is not owned, and of copies on their way to x
abbrev pub shared_weight : (Line → ℕ) → Copy → ℕ
shared_weight b (Held hs None d) = b d
shared_weight b _ = 0

abbrev pub read_weight : (Line → ℕ) → Slot → ℕ
read_weight b (Reads n t (Came d)) = b d
read_weight b _ = 0

abbrev pub datas_weight_msg : (Line → ℕ) → ℕ → ℕ → ℕ → Msg → ℕ
datas_weight_msg b x a c (Data l d) = cond (c == x) (b d) 0
datas_weight_msg b x a c _ = 0

abbrev pub datas_weight : (Line → ℕ) → ℕ → Packet → ℕ
datas_weight b x p = datas_weight_msg b x p.src p.dst p.msg

-- nothing that cluster x has to read from, or is to get, has weight
abbrev pub NoneToRead : (Line → ℕ) → State → ℕ → Type 0
NoneToRead b s x = shared_weight b (s.cells x).copy + read_weight b (s.cells x).slot + asked (s.cells x).slot (weigh (datas_weight b x) s.net) ≡ 0

-- the token has content v, and so has all that is to be read, unless an Inval is on its way to it
pub record Contents (s : State) (p : Place) (v : Line) (x : ℕ) : Type 0 where
  pub brought : weigh (old_brings v x) s.net ≡ 0
  pub given : weigh (old_backs v x) s.net ≡ 0
  pub owner : owner_off (s.cells x).copy v + came_off (s.cells x).slot v ≡ 0
  pub mem : (at_home p ≡ 0) ⊎ (other v s.home.mem ≡ 0)
  pub fresh : (1 ≤ weigh (invals_at x) s.net) ⊎ NoneToRead (other v) s x
