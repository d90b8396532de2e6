-- The messages of a line on their way, and how many of each kind concern a cluster x: of a message from a to b, and of a packet.
use Rattle.std.specs.Prelude.{ℕ, ◌+◌, ◌==◌, Bool, false, cond, Some, List, [], ◌∷◌}
use Rattle.dash_msg.specs.declared.msg.Msg.{Msg}
use Rattle.dash_msg.specs.declared.msg.Msg.TheVariants.{Read, ReadEx, FwdRead, FwdReadEx, Inval, WriteBack, SharingBack, Transfer, LockAsk, Unlock, Data, DataEx, Ack, TransferAck, Nak, LockGrant, UnlockAck}
use Rattle.dash_model.specs.Net.{Packet}
use Rattle.dash_model.specs.Cell.{Copy, Held, Came, Slot, Owns, Entry, Uncached, SharedBy, Dirty}

-- whether a message is of line k
abbrev pub is_of : ℕ → Msg → Bool
is_of k (Read l) = l.0 == k
is_of k (ReadEx l) = l.0 == k
is_of k (FwdRead l r) = l.0 == k
is_of k (FwdReadEx l r) = l.0 == k
is_of k (Inval l r) = l.0 == k
is_of k (WriteBack l d) = l.0 == k
is_of k (SharingBack l d r) = l.0 == k
is_of k (Transfer l r) = l.0 == k
is_of k (LockAsk h n word v) = false
is_of k (Unlock h n word) = false
is_of k (Data l d) = l.0 == k
is_of k (DataEx l d n) = l.0 == k
is_of k (Ack l) = l.0 == k
is_of k (TransferAck l) = l.0 == k
is_of k (Nak l) = l.0 == k
is_of k (LockGrant h) = false
is_of k (UnlockAck h old) = false

-- the messages of line k
unfoldable pub on : ℕ → List Packet → List Packet
on k [] = []
on k (p ∷ ps) = cond (is_of k p.msg) (p ∷ on k ps) (on k ps)

-- 1 where two numbers are equal
abbrev pub one : ℕ → ℕ → ℕ
one a x = cond (a == x) 1 0

-- requests of cluster x to read, also those passed on
abbrev pub reads_msg : ℕ → ℕ → ℕ → Msg → ℕ
reads_msg x a b (Read l) = one a x
reads_msg x a b (FwdRead l r) = one r.0 x
reads_msg x a b _ = 0

abbrev pub reads : ℕ → Packet → ℕ
reads x p = reads_msg x p.src p.dst p.msg

-- copies on their way to x
abbrev pub datas_msg : ℕ → ℕ → ℕ → Msg → ℕ
datas_msg x a b (Data l d) = one b x
datas_msg x a b _ = 0

abbrev pub datas : ℕ → Packet → ℕ
datas x p = datas_msg x p.src p.dst p.msg

-- requests of x to own, also those passed on
abbrev pub wants_msg : ℕ → ℕ → ℕ → Msg → ℕ
wants_msg x a b (ReadEx l) = one a x
wants_msg x a b (FwdReadEx l r) = one r.0 x
wants_msg x a b _ = 0

abbrev pub wants : ℕ → Packet → ℕ
wants x p = wants_msg x p.src p.dst p.msg

-- the line on its way to x, to own
abbrev pub brings_msg : ℕ → ℕ → ℕ → Msg → ℕ
brings_msg x a b (DataEx l d n) = one b x
brings_msg x a b _ = 0

abbrev pub brings : ℕ → Packet → ℕ
brings x p = brings_msg x p.src p.dst p.msg

-- refusals on their way to x
abbrev pub naks_msg : ℕ → ℕ → ℕ → Msg → ℕ
naks_msg x a b (Nak l) = one b x
naks_msg x a b _ = 0

abbrev pub naks : ℕ → Packet → ℕ
naks x p = naks_msg x p.src p.dst p.msg

-- contents that x sent back home
abbrev pub gives_back_msg : ℕ → ℕ → ℕ → Msg → ℕ
gives_back_msg x a b (WriteBack l d) = one a x
gives_back_msg x a b (SharingBack l d r) = one a x
gives_back_msg x a b _ = 0

abbrev pub gives_back : ℕ → Packet → ℕ
gives_back x p = gives_back_msg x p.src p.dst p.msg

-- messages by which x tells the home that it passed the line on
abbrev pub leaves_msg : ℕ → ℕ → ℕ → Msg → ℕ
leaves_msg x a b (Transfer l r) = one a x
leaves_msg x a b _ = 0

abbrev pub leaves : ℕ → Packet → ℕ
leaves x p = leaves_msg x p.src p.dst p.msg

-- messages that tell the home that x has the line
abbrev pub gains_msg : ℕ → ℕ → ℕ → Msg → ℕ
gains_msg x a b (Transfer l r) = one r.0 x
gains_msg x a b _ = 0

abbrev pub gains : ℕ → Packet → ℕ
gains x p = gains_msg x p.src p.dst p.msg

-- invalidations for x, who becomes the owner
abbrev pub invals_msg : ℕ → ℕ → ℕ → Msg → ℕ
invals_msg x a b (Inval l r) = one r.0 x
invals_msg x a b _ = 0

abbrev pub invals : ℕ → Packet → ℕ
invals x p = invals_msg x p.src p.dst p.msg

-- invalidations on their way to x
abbrev pub invals_at_msg : ℕ → ℕ → ℕ → Msg → ℕ
invals_at_msg x a b (Inval l r) = one b x
invals_at_msg x a b _ = 0

abbrev pub invals_at : ℕ → Packet → ℕ
invals_at x p = invals_at_msg x p.src p.dst p.msg

-- acknowledgements on their way to x
abbrev pub acks_to_msg : ℕ → ℕ → ℕ → Msg → ℕ
acks_to_msg x a b (Ack l) = one b x
acks_to_msg x a b (TransferAck l) = one b x
acks_to_msg x a b _ = 0

abbrev pub acks_to : ℕ → Packet → ℕ
acks_to x p = acks_to_msg x p.src p.dst p.msg

-- acknowledgements that are announced to x
abbrev pub counts_to_msg : ℕ → ℕ → ℕ → Msg → ℕ
counts_to_msg x a b (DataEx l d n) = cond (b == x) n 0
counts_to_msg x a b _ = 0

abbrev pub counts_to : ℕ → Packet → ℕ
counts_to x p = counts_to_msg x p.src p.dst p.msg

-- messages that tell the home that x has a copy
abbrev pub shares_msg : ℕ → ℕ → ℕ → Msg → ℕ
shares_msg x a b (SharingBack l d r) = one a x + one r.0 x
shares_msg x a b _ = 0

abbrev pub shares : ℕ → Packet → ℕ
shares x p = shares_msg x p.src p.dst p.msg

-- messages by which o tells the home that it passed the line on to x
abbrev pub passes_msg : ℕ → ℕ → ℕ → ℕ → Msg → ℕ
passes_msg o x a b (Transfer l r) = cond (a == o) (one r.0 x) 0
passes_msg o x a b _ = 0

abbrev pub passes : ℕ → ℕ → Packet → ℕ
passes o x p = passes_msg o x p.src p.dst p.msg

-- 1 where the line came to a slot that is to own it
abbrev pub came_own : Slot → ℕ
came_own (Owns n t (Came d)) = 1
came_own _ = 0

-- 1 where the cluster has an owner
abbrev pub owned : Copy → ℕ
owned (Held hs (Some o) d) = 1
owned _ = 0

-- 1 where the entry is not Dirty
abbrev pub clean : Entry → ℕ
clean (Dirty o) = 0
clean Uncached = 1
clean (SharedBy cs) = 1
