-- Rows of a line send messages of that line alone, and leave a home that is not their cluster's.
use Rattle.std.proofs.Common.{◌≡◌, ◌≢◌, ℕ, ◌==◌, ◌&&◌, Bool, true, false, cond, Some, List, [], ◌∷◌, ◌++◌, subst, arith}
use Rattle.std.proofs.lemmas.Bool.Decides.{nat_tests}
use Rattle.dash_base.specs.declared.id.LineId.{LineId}
use Rattle.dash_base.specs.declared.line.Line.{Line}
use Rattle.dash_msg.specs.declared.msg.Msg.{Msg}
use Rattle.dash_msg.specs.declared.msg.Msg.TheVariants.{Read, ReadEx, FwdRead, FwdReadEx, Inval, WriteBack, SharingBack, Transfer, LockAsk, Unlock, Data, DataEx, Ack, TransferAck, Nak, LockGrant, UnlockAck}
use Rattle.dash_model.specs.Maps.{without}
use Rattle.dash_model.specs.Config.{line_id}
use Rattle.dash_model.specs.Net.{to}
use Rattle.dash_model.specs.Cell.{Copy, Held, Came, Refused, Slot, Reads, Owns, Acks, NoAcks, Entry, Uncached, SharedBy, Dirty, Cell, Home}
use Rattle.dash_model.specs.LineEffect.{LineEffect, still}
use Rattle.dash_model.specs.Requests.{invals_to, read_row, own_row, give_read, give_own, is_dirty_of, write_back_row, sharing_back_row, transfer_row}
use Rattle.dash_model.specs.Acts.{Act, AskRead, AskOwn, Again, Install, Commit, Evict, Drop, BusRead, BusOwn, act_row, again_row, install_row, evict_row}
use Rattle.dash_model.specs.LineRows.{take_row}
use Rattle.dash_model.specs.OnLine.{is_of}
use Rattle.dash_model.proofs.Along.{AllAre, IsLocal}

self : (k : ℕ) → (k == k) ≡ true
self k = grind (arith, nat_tests)

sends_invals : (l : LineId) (r : ℕ) (cs : List ℕ) (c : ℕ) (m : Msg) → is_of l.0 m ≡ true → AllAre l.0 true (invals_to l r cs ++ (to c m ∷ []))
unfolding invals_to
sends_invals l r [] c m e = (e, tt)
sends_invals l r (x ∷ xs) c m e = (self l.0, sends_invals l r xs c m e)

sends_read : (l : LineId) (f : ℕ) (e : Entry) (a : Cell) (b : Home) → AllAre l.0 true (read_row l f e a b).sent
sends_read l f Uncached a b = (self l.0, tt)
sends_read l f (SharedBy cs) a b = (self l.0, tt)
sends_read l f (Dirty o) a b = (self l.0, tt)

sends_own : (l : LineId) (f : ℕ) (e : Entry) (a : Cell) (b : Home) → AllAre l.0 true (own_row l f e a b).sent
sends_own l f Uncached a b = (self l.0, tt)
sends_own l f (SharedBy cs) a b = sends_invals l f (without f cs) f (DataEx l b.mem _) (self l.0)
sends_own l f (Dirty o) a b = (self l.0, tt)

sends_give_read : (l : LineId) (h r : ℕ) (c : Copy) (k : Acks) (a : Cell) (b : Home) → AllAre l.0 true (give_read l h r c k a b).sent
sends_give_read l h r (Held hs (Some o) d) NoAcks a b = (self l.0, (self l.0, tt))
sends_give_read l h r _ _ a b = (self l.0, tt)

sends_give_own : (l : LineId) (h r : ℕ) (c : Copy) (k : Acks) (a : Cell) (b : Home) → AllAre l.0 true (give_own l h r c k a b).sent
sends_give_own l h r (Held hs (Some o) d) NoAcks a b = (self l.0, (self l.0, tt))
sends_give_own l h r _ _ a b = (self l.0, tt)

sends_write_back : (k : ℕ) (d : Line) (i : Bool) (a : Cell) (b : Home) → AllAre k true (write_back_row d i a b).sent
sends_write_back k d true a b = tt
sends_write_back k d false a b = tt

sends_sharing_back : (k f : ℕ) (d : Line) (r : ℕ) (i : Bool) (a : Cell) (b : Home) → AllAre k true (sharing_back_row f d r i a b).sent
sends_sharing_back k f d r true a b = tt
sends_sharing_back k f d r false a b = tt

sends_transfer : (l : LineId) (r : ℕ) (i : Bool) (a : Cell) (b : Home) → AllAre l.0 true (transfer_row l r i a b).sent
sends_transfer l r true a b = (self l.0, tt)
sends_transfer l r false a b = tt

sends_if : (k : ℕ) (i : Bool) (d e : LineEffect) → AllAre k true d.sent → AllAre k true e.sent → AllAre k true (cond i d e).sent
sends_if k true d e h g = h
sends_if k false d e h g = g

is_line : (l k : ℕ) → (l == k) ≡ true → l ≡ k
is_line l k e = grind (arith, nat_tests)

-- a message of a line makes its row send messages of that line
pub take_sends : (l k h c f : ℕ) (m : Msg) (a : Cell) (b : Home) → is_of l m ≡ true → AllAre l true (take_row k h c f m a b).sent
take_sends l k h c f (Read x) a b e =
    subst (λ y. AllAre y true (take_row k h c f (Read x) a b).sent) (is_line x.0 l e) (sends_if x.0 (c == h) (read_row x f b.entry a b) (still a b) (sends_read x f b.entry a b) tt)
take_sends l k h c f (ReadEx x) a b e =
    subst (λ y. AllAre y true (take_row k h c f (ReadEx x) a b).sent) (is_line x.0 l e) (sends_if x.0 (c == h) (own_row x f b.entry a b) (still a b) (sends_own x f b.entry a b) tt)
take_sends l k h c f (FwdRead x r) a b e =
    subst (λ y. AllAre y true (take_row k h c f (FwdRead x r) a b).sent) (is_line x.0 l e) (sends_give_read x h r.0 a.copy a.acks a b)
take_sends l k h c f (FwdReadEx x r) a b e =
    subst (λ y. AllAre y true (take_row k h c f (FwdReadEx x r) a b).sent) (is_line x.0 l e) (sends_give_own x h r.0 a.copy a.acks a b)
take_sends l k h c f (Inval x r) a b e = (e, tt)
take_sends l k h c f (WriteBack x d) a b e = sends_write_back l d ((c == h) && is_dirty_of f b.entry) a b
take_sends l k h c f (SharingBack x d r) a b e = sends_sharing_back l f d r.0 ((c == h) && is_dirty_of f b.entry) a b
take_sends l k h c f (Transfer x r) a b e =
    subst (λ y. AllAre y true (take_row k h c f (Transfer x r) a b).sent) (is_line x.0 l e) (sends_transfer x r.0 ((c == h) && is_dirty_of f b.entry) a b)
take_sends l k h c f (LockAsk t n word v) a b e = tt
take_sends l k h c f (Unlock t n word) a b e = tt
take_sends l k h c f (Data x d) a b e = tt
take_sends l k h c f (DataEx x d n) a b e = tt
take_sends l k h c f (Ack x) a b e = tt
take_sends l k h c f (TransferAck x) a b e = tt
take_sends l k h c f (Nak x) a b e = tt
take_sends l k h c f (LockGrant t) a b e = tt
take_sends l k h c f (UnlockAck t old) a b e = tt

sends_again : (k h : ℕ) (s : Slot) (a : Cell) (b : Home) → AllAre k true (again_row (line_id k) h s a b).sent
sends_again k h (Reads n t Refused) a b = (self k, tt)
sends_again k h (Owns n t Refused) a b = (self k, tt)
sends_again k h _ a b = tt

sends_install : (k : ℕ) (s : Slot) (a : Cell) (b : Home) → AllAre k true (install_row s a b).sent
sends_install k (Reads n t (Came d)) a b = tt
sends_install k (Owns n t (Came d)) a b = tt
sends_install k _ a b = tt

sends_evict : (k h : ℕ) (c : Copy) (a : Cell) (b : Home) → AllAre k true (evict_row (line_id k) h c a b).sent
sends_evict k h (Held hs (Some o) d) a b = (self k, tt)
sends_evict k h _ a b = tt

pub act_sends : (k h : ℕ) (m : Act) (a : Cell) (b : Home) → AllAre k true (act_row (line_id k) h m a b).sent
act_sends k h (AskRead n t) a b = (self k, tt)
act_sends k h (AskOwn n t) a b = (self k, tt)
act_sends k h Again a b = sends_again k h a.slot a b
act_sends k h Install a b = sends_install k a.slot a b
act_sends k h (Commit t d) a b = tt
act_sends k h (Evict t) a b = sends_evict k h a.copy a b
act_sends k h (Drop t) a b = tt
act_sends k h (BusRead t) a b = tt
act_sends k h (BusOwn t) a b = tt

-- a row reads and changes the home only where it is its cluster's
home_take : (k h c f : ℕ) (m : Msg) → c ≢ h → (a : Cell) (b : Home) → (take_row k h c f m a b).home ≡ b
home_take k h c f m n a b = grind (arith, nat_tests)

cell_take : (k h c f : ℕ) (m : Msg) → c ≢ h → (a : Cell) (b e : Home) → (take_row k h c f m a b).cell ≡ (take_row k h c f m a e).cell
cell_take k h c f m n a b e = grind (arith, nat_tests)

sent_take : (k h c f : ℕ) (m : Msg) → c ≢ h → (a : Cell) (b e : Home) → (take_row k h c f m a b).sent ≡ (take_row k h c f m a e).sent
sent_take k h c f m n a b e = grind (arith, nat_tests)

pub take_local : (k h c f : ℕ) (m : Msg) → IsLocal c h (λ a b. take_row k h c f m a b)
take_local k h c f m = record { home = home_take k h c f m; cell = cell_take k h c f m; sent = sent_take k h c f m }

pub home_act : (l : LineId) (h : ℕ) (m : Act) (a : Cell) (b : Home) → (act_row l h m a b).home ≡ b
home_act l h m a b = grind (arith, nat_tests)

cell_act : (l : LineId) (h : ℕ) (m : Act) (a : Cell) (b e : Home) → (act_row l h m a b).cell ≡ (act_row l h m a e).cell
cell_act l h m a b e = grind (arith, nat_tests)

sent_act : (l : LineId) (h : ℕ) (m : Act) (a : Cell) (b e : Home) → (act_row l h m a b).sent ≡ (act_row l h m a e).sent
sent_act l h m a b e = grind (arith, nat_tests)

pub act_local : (l : LineId) (c h : ℕ) (m : Act) → IsLocal c h (λ a b. act_row l h m a b)
act_local l c h m = record { home = λ n a b. home_act l h m a b; cell = λ n a b e. cell_act l h m a b e; sent = λ n a b e. sent_act l h m a b e }
