-- What an event does to a line's entry at its cluster, and what it counts there.
use Rattle.std.proofs.Common.{◌≡◌, ◌≢◌, ℕ, ◌+◌, ◌≤◌, ◌==◌, ◌&&◌, Bool, true, false, cond, if◌then◌else◌, nat_lt, Some, List, [], refl, ap, ◌∙◌, subst, arith}
use Rattle.dash_base.specs.declared.id.ClusterId.{ClusterId}
use Rattle.dash_base.specs.declared.id.HartId.{HartId}
use Rattle.dash_base.specs.declared.id.LineId.{LineId}
use Rattle.dash_base.specs.declared.line.Line.{Line}
use Rattle.dash_msg.specs.Classes.{class_of}
use Rattle.dash_msg.specs.declared.msg.Msg.{Msg}
use Rattle.dash_msg.specs.declared.msg.Msg.TheVariants.{Read, ReadEx, FwdRead, FwdReadEx, Inval, WriteBack, SharingBack, Transfer, LockAsk, Unlock, Data, DataEx, Ack, TransferAck, Nak, LockGrant, UnlockAck}
use Rattle.dash_event.specs.declared.event.Kind.{Kind}
use Rattle.dash_event.specs.declared.event.Kind.TheVariants as kind
use Rattle.dash_model.specs.Maps.{weigh}
use Rattle.dash_model.specs.Config.{Config, line_id, cluster_of}
use Rattle.dash_model.specs.Net.{parcel, head}
use Rattle.dash_model.specs.Cell.{Copy, Held, Asked, Poisoned, Came, Refused, Slot, NoSlot, Reads, Owns, Acks, NoAcks, Counting, Expects, Entry, Uncached, SharedBy, Dirty, Cell, Home}
use Rattle.dash_model.specs.OnLine.{is_of, came_own, brings, counts_to, acks_to, naks}
use Rattle.dash_model.specs.LineEffect.{LineEffect, still, has_owner}
use Rattle.dash_model.specs.Acts.{Act, AskRead, AskOwn, Again, Install, Commit, Evict, Drop, BusRead, BusOwn, act_row, again_row, install_row, evict_row, owe}
use Rattle.dash_model.specs.Requests.{read_row, own_row, give_read, give_own, is_dirty_of, write_back_row, sharing_back_row, transfer_row}
use Rattle.dash_model.specs.Replies.{expecting, expecting_for, counted, nak_acks}
use Rattle.dash_model.specs.LineRows.{take_row}
use Rattle.dash_model.specs.Log.{Commits}
use Rattle.dash_model.specs.Owed.{announced_by, acknowledged_by, taken_in}
use Rattle.dash_model.proofs.LineState.{State, MayAct, content_after}
use Rattle.dash_model.proofs.Weigh.{weigh-only}
use Rattle.dash_model.proofs.Facts.{Place, holds, waits_own, waits_read, Counted, counting, Facts}
use Rattle.dash_model.proofs.Rows.{brings_counts}
use Rattle.dash_model.proofs.Tests.{same, is_same, one_same}
use Rattle.dash_model.proofs.Alone.{no_owner}
use Rattle.dash_model.proofs.LineCases.{weighs}

-- the event counts nothing for the line, commits no version of it, and brings it to nobody to own
pub record IsSilent (l : ℕ) (e : Kind) : Type 0 where
  pub announces : taken_in (announced_by (line_id l)) e ≡ 0
  pub acknowledges : taken_in (acknowledged_by (line_id l)) e ≡ 0
  pub commits : (h : HartId) (v : ℕ) → Commits e h (line_id l) v → ⊥
  pub gives : (f : ClusterId) (d : Line) (n : ℕ) → e ≡ kind.Take f (DataEx (line_id l) d n) → ⊥

-- what an event makes of the entry: it stays; an ask to own begins it; a refusal that closes its slot ends it before any came; a commit is owed for; an acknowledgement counts; and what brings the line tells the number
pub data Entered (w : Config) (c l : ℕ) (e : Kind) (a b : Acks) : Type 0 where
  Stays : b ≡ a → IsSilent l e → Entered w c l e a b
  Begins : a ≡ NoAcks → b ≡ Counting 0 [] → IsSilent l e → Entered w c l e a b
  Ends : (o : List ℕ) → a ≡ Counting 0 o → b ≡ NoAcks → IsSilent l e → Entered w c l e a b
  Owes : (h : HartId) (v : ℕ) → cluster_of w h.0 ≡ c → Commits e h (line_id l) v → ((g : HartId) (u : ℕ) → Commits e g (line_id l) u → g ≡ h) → taken_in (announced_by (line_id l)) e ≡ 0 → taken_in (acknowledged_by (line_id l)) e ≡ 0 → ((f : ClusterId) (m : Msg) → e ≡ kind.Take f m → ⊥) → ((g : ℕ) (o : List ℕ) → a ≡ Counting g o → ⊥) → b ≡ owe h.0 a → Entered w c l e a b
  Counts : (f : ClusterId) (m : Msg) → e ≡ kind.Take f m → ((d : Line) (n : ℕ) → m ≡ DataEx (line_id l) d n → ⊥) → announced_by (line_id l) m ≡ 0 → acknowledged_by (line_id l) m ≡ 1 → a ≢ NoAcks → b ≡ counted a → Entered w c l e a b
  Told : (f : ClusterId) (d : Line) (n g : ℕ) (o : List ℕ) → e ≡ kind.Take f (DataEx (line_id l) d n) → a ≡ Counting g o → b ≡ expecting n (Counting g o) → Entered w c l e a b

-- acts
acks_again : (l : LineId) (h : ℕ) (s : Slot) (a : Cell) (b : Home) → (again_row l h s a b).cell.acks ≡ a.acks
acks_again l h (Reads n t Refused) a b = refl
acks_again l h (Owns n t Refused) a b = refl
acks_again l h _ a b = refl

acks_install : (s : Slot) (a : Cell) (b : Home) → (install_row s a b).cell.acks ≡ a.acks
acks_install (Reads n t (Came d)) a b = refl
acks_install (Owns n t (Came d)) a b = refl
acks_install _ a b = refl

acks_evict : (l : LineId) (h : ℕ) (c : Copy) (a : Cell) (b : Home) → (evict_row l h c a b).cell.acks ≡ a.acks
acks_evict l h (Held hs (Some o) d) a b = refl
acks_evict l h _ a b = refl

-- without a slot or an owner there is no entry
no_entry : (k : Acks) (n d h : ℕ) → Counted NoSlot k n d h → h ≡ 0 → k ≡ NoAcks
no_entry NoAcks n d h f z = refl
no_entry (Counting g o) n d h f z = absurd f
no_entry (Expects m g o) n d h f z = absurd (let y = f.3 in omega arith)

none_begun : (h c : ℕ) (s : State) (p : Place) → Facts h s p c → (s.cells c).slot ≡ NoSlot → has_owner (s.cells c).copy ≡ false → (s.cells c).acks ≡ NoAcks
none_begun h c s p k e f =
    let z = no_owner (s.cells c).copy f in
    let t = k.tokens.token in
    let own = k.requests.own in
    let wait : waits_own (s.cells c).slot ≡ 0 = ap waits_own e in
    let came : came_own (s.cells c).slot ≡ 0 = ap came_own e in
    no_entry (s.cells c).acks (counting c s) (weigh (counts_to c) s.net) (holds p c) (subst (λ x. Counted x (s.cells c).acks (counting c s) (weigh (counts_to c) s.net) (holds p c)) e k.counts) (omega arith)

pub plain_act : (w : Config) (c l : ℕ) (e : Kind) (k : LineId) (h : ℕ) (y : Act) (s : State) (p : Place) (b : Home) → MayAct y (s.cells c) → ((d : Line) → content_after d y ≡ d) → IsSilent l e → Facts h s p c → Entered w c l e (s.cells c).acks (act_row k h y (s.cells c) b).cell.acks
plain_act w c l e k h (AskRead n t) s p b may same q f = Stays refl q
plain_act w c l e k h (AskOwn n t) s p b may same q f = Begins (none_begun h c s p f may.0 may.1) refl q
plain_act w c l e k h Again s p b may same q f = Stays (acks_again k h (s.cells c).slot (s.cells c) b) q
plain_act w c l e k h Install s p b may same q f = Stays (acks_install (s.cells c).slot (s.cells c) b) q
plain_act w c l e k h (Commit t d) s p b may same q f = absurd (let z : d.version ≡ d.version + 1 = ap (λ (x : Line). x.version) (same (record d { version = d.version + 1 })) in omega arith)
plain_act w c l e k h (Evict t) s p b may same q f = Stays (acks_evict k h (s.cells c).copy (s.cells c) b) q
plain_act w c l e k h (Drop t) s p b may same q f = Stays refl q
plain_act w c l e k h (BusRead t) s p b may same q f = Stays refl q
plain_act w c l e k h (BusOwn t) s p b may same q f = Stays refl q

-- messages that leave the entry
acks_if : (i : Bool) (d e : LineEffect) (k : Acks) → d.cell.acks ≡ k → e.cell.acks ≡ k → (cond i d e).cell.acks ≡ k
acks_if true d e k x y = x
acks_if false d e k x y = y

acks_read : (l : LineId) (f : ℕ) (e : Entry) (a : Cell) (b : Home) → (read_row l f e a b).cell.acks ≡ a.acks
acks_read l f Uncached a b = refl
acks_read l f (SharedBy cs) a b = refl
acks_read l f (Dirty o) a b = refl

acks_own : (l : LineId) (f : ℕ) (e : Entry) (a : Cell) (b : Home) → (own_row l f e a b).cell.acks ≡ a.acks
acks_own l f Uncached a b = refl
acks_own l f (SharedBy cs) a b = refl
acks_own l f (Dirty o) a b = refl

acks_give_read : (l : LineId) (h r : ℕ) (c : Copy) (s : Acks) (a : Cell) (b : Home) → (give_read l h r c s a b).cell.acks ≡ a.acks
acks_give_read l h r (Held hs (Some o) d) NoAcks a b = refl
acks_give_read l h r _ _ a b = refl

acks_give_own : (l : LineId) (h r : ℕ) (c : Copy) (s : Acks) (a : Cell) (b : Home) → (give_own l h r c s a b).cell.acks ≡ a.acks
acks_give_own l h r (Held hs (Some o) d) NoAcks a b = refl
acks_give_own l h r _ _ a b = refl

acks_write_back : (d : Line) (i : Bool) (a : Cell) (b : Home) → (write_back_row d i a b).cell.acks ≡ a.acks
acks_write_back d true a b = refl
acks_write_back d false a b = refl

acks_sharing_back : (f : ℕ) (d : Line) (r : ℕ) (i : Bool) (a : Cell) (b : Home) → (sharing_back_row f d r i a b).cell.acks ≡ a.acks
acks_sharing_back f d r true a b = refl
acks_sharing_back f d r false a b = refl

acks_transfer : (l : LineId) (r : ℕ) (i : Bool) (a : Cell) (b : Home) → (transfer_row l r i a b).cell.acks ≡ a.acks
acks_transfer l r true a b = refl
acks_transfer l r false a b = refl

-- a message that counts nothing
abbrev pub CountsNothing : Msg → Type 0
CountsNothing (DataEx l d n) = ⊥
CountsNothing (Ack l) = ⊥
CountsNothing (TransferAck l) = ⊥
CountsNothing m = Unit {0}

pub silent_msg : (l : ℕ) (f : ClusterId) (m : Msg) → CountsNothing m → IsSilent l (kind.Take f m)
silent_msg l f (DataEx k d n) t = absurd t
silent_msg l f (Ack k) t = absurd t
silent_msg l f (TransferAck k) t = absurd t
silent_msg l f _ t = record { announces = refl; acknowledges = refl; commits = λ h v x. x; gives = λ g d n e. absurd (cc) }

-- a message of another line
if_off : (i : Bool) (n : ℕ) → i ≡ false → (if i then n else 0) ≡ 0
if_off i n e = ap (λ b. if b then n else 0) e

pub silent_off : (l : ℕ) (f : ClusterId) (m : Msg) → is_of l m ≡ false → IsSilent l (kind.Take f m)
silent_off l f (DataEx k d n) e = record { announces = if_off (k.0 == l) n e; acknowledges = refl; commits = λ h v x. x; gives = λ g x j q. (let z : DataEx k d n ≡ DataEx (line_id l) x j = cc in let y : is_of l (DataEx (line_id l) x j) ≡ false = subst (λ m. is_of l m ≡ false) z e in let t = same l in absurd (cc)) }
silent_off l f (Ack k) e = record { announces = refl; acknowledges = if_off (k.0 == l) 1 e; commits = λ h v x. x; gives = λ g d n q. absurd (cc) }
silent_off l f (TransferAck k) e = record { announces = refl; acknowledges = if_off (k.0 == l) 1 e; commits = λ h v x. x; gives = λ g d n q. absurd (cc) }
silent_off l f _ e = record { announces = refl; acknowledges = refl; commits = λ h v x. x; gives = λ g d n q. absurd (cc) }

-- an acknowledgement finds an entry
pub some_entry : (s : Slot) (n d h : ℕ) → Counted s NoAcks n d h → n ≡ 0
some_entry (Owns i t Asked) n d h k = absurd k
some_entry (Owns i t Refused) n d h k = absurd k
some_entry (Owns i t Poisoned) n d h k = absurd k
some_entry (Owns i t (Came x)) n d h k = k.0
some_entry (Reads i t p) n d h k = k.0
some_entry NoSlot n d h k = k.0

has_entry : (h c : ℕ) (s : State) (p : Place) → Facts h s p c → 1 ≤ weigh (acks_to c) s.net → (s.cells c).acks ≢ NoAcks
has_entry h c s p k n z =
    let e = some_entry (s.cells c).slot (counting c s) (weigh (counts_to c) s.net) (holds p c) (subst (λ x. Counted (s.cells c).slot x (counting c s) (weigh (counts_to c) s.net) (holds p c)) z k.counts) in
    omega arith

is_line : (k : LineId) (l : ℕ) → (k.0 == l) ≡ true → k ≡ line_id l
is_line k l e = let z = is_same k.0 l e in λ i. record { 0 = z i }

if_on : (i : Bool) (n : ℕ) → i ≡ true → (if i then n else 0) ≡ n
if_on i n e = ap (λ b. if b then n else 0) e

-- what brings the line finds a slot that waits to own it, and its count
told_by : (w : Config) (c l : ℕ) (f : ClusterId) (k : LineId) (x : Line) (n : ℕ) (s : Slot) (a : Acks) (m d h : ℕ) → k ≡ line_id l → 1 ≤ waits_own s → Counted s a m d h → Entered w c l (kind.Take f (DataEx k x n)) a (expecting_for n s a)
told_by w c l f k x n (Owns i t Asked) (Counting g o) m d h e low q = Told f x n g o (ap (λ y. kind.Take f (DataEx y x n)) e) refl refl
told_by w c l f k x n (Owns i t Asked) NoAcks m d h e low q = absurd q
told_by w c l f k x n (Owns i t Asked) (Expects j g o) m d h e low q = absurd q
told_by w c l f k x n _ a m d h e low q = absurd (omega arith)

-- a refusal ends an entry of which none came
ended_if : (w : Config) (c l : ℕ) (e : Kind) (a : Acks) (g : ℕ) (o : List ℕ) (i : Bool) → a ≡ Counting g o → g ≡ 0 → IsSilent l e → Entered w c l e a (cond i a NoAcks)
ended_if w c l e a g o true is z q = Stays refl q
ended_if w c l e a g o false is z q = Ends o (is ∙ ap (λ y. Counting y o) z) refl q

ended_by : (w : Config) (c l : ℕ) (e : Kind) (k : ℕ) (s : Slot) (a : Acks) (m d h : ℕ) → (1 ≤ waits_own s → d ≡ 0) → Counted s a m d h → IsSilent l e → Entered w c l e a (nak_acks k s a)
ended_by w c l e k (Owns i t Asked) (Counting g o) m d h z f q = let y = z (omega arith) in ended_if w c l e (Counting g o) g o (nat_lt i k) refl (omega arith) q
ended_by w c l e k (Owns i t Asked) NoAcks m d h z f q = absurd f
ended_by w c l e k (Owns i t Asked) (Expects j g o) m d h z f q = absurd f
ended_by w c l e k (Owns i t Poisoned) a m d h z f q = absurd f
ended_by w c l e k _ a m d h z f q = Stays refl q

one_wait : (s : Slot) → waits_read s + waits_own s ≤ 1
one_wait s = grind arith

-- a message of the line
pub take_entry : (w : Config) (c l k h t : ℕ) (f : ClusterId) (u : ℕ) (m : Msg) (s : State) (p : Place) (b : Home) → is_of l m ≡ true → head f.0 c (class_of m) s.net ≡ Some (parcel f.0 c m u) → Facts h s p c → Entered w c l (kind.Take f m) (s.cells c).acks (take_row k t c f.0 m (s.cells c) b).cell.acks
take_entry w c l k h t f u (Read i) s p b o first q = Stays (acks_if (c == t) (read_row i f.0 b.entry (s.cells c) b) (still (s.cells c) b) (s.cells c).acks (acks_read i f.0 b.entry (s.cells c) b) refl) (silent_msg l f (Read i) tt)
take_entry w c l k h t f u (ReadEx i) s p b o first q = Stays (acks_if (c == t) (own_row i f.0 b.entry (s.cells c) b) (still (s.cells c) b) (s.cells c).acks (acks_own i f.0 b.entry (s.cells c) b) refl) (silent_msg l f (ReadEx i) tt)
take_entry w c l k h t f u (FwdRead i r) s p b o first q = Stays (acks_give_read i t r.0 (s.cells c).copy (s.cells c).acks (s.cells c) b) (silent_msg l f (FwdRead i r) tt)
take_entry w c l k h t f u (FwdReadEx i r) s p b o first q = Stays (acks_give_own i t r.0 (s.cells c).copy (s.cells c).acks (s.cells c) b) (silent_msg l f (FwdReadEx i r) tt)
take_entry w c l k h t f u (Inval i r) s p b o first q = Stays refl (silent_msg l f (Inval i r) tt)
take_entry w c l k h t f u (WriteBack i d) s p b o first q = Stays (acks_write_back d ((c == t) && is_dirty_of f.0 b.entry) (s.cells c) b) (silent_msg l f (WriteBack i d) tt)
take_entry w c l k h t f u (SharingBack i d r) s p b o first q = Stays (acks_sharing_back f.0 d r.0 ((c == t) && is_dirty_of f.0 b.entry) (s.cells c) b) (silent_msg l f (SharingBack i d r) tt)
take_entry w c l k h t f u (Transfer i r) s p b o first q = Stays (acks_transfer i r.0 ((c == t) && is_dirty_of f.0 b.entry) (s.cells c) b) (silent_msg l f (Transfer i r) tt)
take_entry w c l k h t f u (Data i d) s p b o first q = Stays refl (silent_msg l f (Data i d) tt)
take_entry w c l k h t f u (DataEx i d n) s p b o first q =
    let some = weighs f.0 c u (DataEx i d n) s.net (brings c) first (one_same c) in
    let own = q.requests.own in
    told_by w c l f i d n (s.cells c).slot (s.cells c).acks (counting c s) (weigh (counts_to c) s.net) (holds p c) (is_line i l o) (omega arith) q.counts
take_entry w c l k h t f u (Ack i) s p b o first q =
    let some = weighs f.0 c u (Ack i) s.net (acks_to c) first (one_same c) in
    Counts f (Ack i) refl (λ d n e. absurd (cc)) refl (if_on (i.0 == l) 1 o) (has_entry h c s p q some) refl
take_entry w c l k h t f u (TransferAck i) s p b o first q =
    let some = weighs f.0 c u (TransferAck i) s.net (acks_to c) first (one_same c) in
    Counts f (TransferAck i) refl (λ d n e. absurd (cc)) refl (if_on (i.0 == l) 1 o) (has_entry h c s p q some) refl
take_entry w c l k h t f u (Nak i) s p b o first q =
    let some = weighs f.0 c u (Nak i) s.net (naks c) first (one_same c) in
    let all = q.requests.all in
    let one = one_wait (s.cells c).slot in
    ended_by w c l (kind.Take f (Nak i)) k (s.cells c).slot (s.cells c).acks (counting c s) (weigh (counts_to c) s.net) (holds p c) (λ low. weigh-only (brings c) (counts_to c) (brings_counts c) s.net (omega arith)) q.counts (silent_msg l f (Nak i) tt)
take_entry w c l k h t f u (LockAsk x n word v) s p b o first q = absurd (cc)
take_entry w c l k h t f u (Unlock x n word) s p b o first q = absurd (cc)
take_entry w c l k h t f u (LockGrant x) s p b o first q = absurd (cc)
take_entry w c l k h t f u (UnlockAck x old) s p b o first q = absurd (cc)
