-- What each event does to lock words, and which lock messages it sends.
use Rattle.std.proofs.Common.{◌≡◌, ℕ, ◌&&◌, Bool, true, false, Option, Some, None, List, [], ◌∷◌, refl, sym, ap, subst}
use Rattle.std.specs.Prelude.{unwrap_or}
use Rattle.dash_base.specs.declared.id.ClusterId.{ClusterId}
use Rattle.dash_base.specs.declared.id.HartId.{HartId}
use Rattle.dash_base.specs.declared.id.LineId.{LineId}
use Rattle.dash_base.specs.declared.id.WordAddr.{WordAddr}
use Rattle.dash_msg.specs.declared.msg.Msg.{Msg}
use Rattle.dash_msg.specs.declared.msg.Msg.TheVariants.{Read, ReadEx, FwdRead, FwdReadEx, Inval, WriteBack, SharingBack, Transfer, Data, DataEx, Ack, TransferAck, Nak, LockAsk, Unlock, LockGrant, UnlockAck}
use Rattle.dash_event.specs.Records.{unseen}
use Rattle.dash_event.specs.declared.access.Access.{Access}
use Rattle.dash_event.specs.declared.event.Kind.{Kind}
use Rattle.dash_event.specs.declared.event.Kind.TheVariants as kind
use Rattle.dash_base.specs.declared.need.HintKind.{HintKind}
use Rattle.dash_base.specs.declared.need.HintKind.TheVariants.{Fetch, Shared, Exclusive}
use Rattle.write_buffer.specs.declared.entry.Entry.{Entry as Stored}
use Rattle.hart_core.specs.Meaning.{Needs}
use Rattle.dash_base.specs.declared.need.Need.{Need}
use Rattle.dash_base.specs.declared.need.Need.TheVariants as needed
use Rattle.dash_event.specs.Offered.{offered}
use Rattle.dash_model.specs.Config.{Config, cluster_of, line_at, lock_at, home_of, first_prefetch}
use Rattle.dash_model.specs.Net.{to}
use Rattle.dash_model.specs.Part.{Waiter, Part}
use Rattle.dash_model.specs.Acts.{Act, AskRead, AskOwn, Again, Install, Commit, BusRead, BusOwn}
use Rattle.dash_model.specs.Words.{held_by, content, written_in}
use Rattle.dash_model.specs.HartRows.{PartEffect, quiet, HartEffect, acts, change, retire, hint_row, commit_row, kept, rmw_reserved, evict_act, ask_act, lock_target}
use Rattle.dash_model.specs.HartGuards.{LockSends}
use Rattle.dash_model.specs.Guard.{Guard, frees}
use Rattle.dash_model.specs.LockRows.{grant_row, free_row, queued, answered}
use Rattle.dash_model.specs.Ranges.{own_lock, in_range, has_space, applies}
use Rattle.dash_model.specs.Row.{row, line_msg_row, msg_row, msg_row_if}
use Rattle.dash_model.specs.OnLine.{is_of}
use Rattle.dash_model.specs.Cases.{has_case}
use Rattle.dash_model.proofs.Tests.{same, both_left}
use Rattle.dash_model.proofs.Along.{AllAre}
use Rattle.dash_model.proofs.RowsAlong.{act_sends, take_sends}
use Rattle.dash_model.proofs.LineSteps.{IsLineMsg}

-- the event has nothing to do with lock words
abbrev pub IsPlain : Kind → Type 0
IsPlain (kind.LockSend g m) = ⊥
IsPlain (kind.Grant a) = ⊥
IsPlain (kind.Free f a) = ⊥
IsPlain (kind.Take f m) = IsLineMsg m
IsPlain e = Unit {0}

-- lock words stay, and what is sent is of one line
pub record IsApart (e : Kind) (p : Part) (r : PartEffect) : Type 0 where
  pub plain : IsPlain e
  pub line : ℕ
  pub sent : AllAre line true r.sent
  pub locks : r.part.locks ≡ p.locks

-- what an event of cluster c makes of its part p
pub data LockView (w : Config) (c : ℕ) (p : Part) : Kind → PartEffect → Type 0 where
  Plain : (e : Kind) (r : PartEffect) → IsApart e p r → LockView w c p e r
  Sends : (g : HartId) (m : Msg) (need : Need) (q : Part) → cluster_of w g.0 ≡ c → Needs w.image w.top (p.harts g.0).core need → LockSends g.0 m need p → q.locks ≡ p.locks
      → LockView w c p (kind.LockSend g m) (record { part = q; sent = to (lock_target w m) m ∷ [] })
  Grants : (a : Access) (x : Waiter) (xs : List Waiter) → own_lock w c a.word ≡ true → (p.locks (lock_at w a.word.0)).queue ≡ x ∷ xs → a.hart.0 ≡ x.hart
      → LockView w c p (kind.Grant a) (grant_row w (lock_at w a.word.0) (x ∷ xs) p)
  Frees : (f : ClusterId) (a : Access) → frees w c a.hart a.word ≡ true → LockView w c p (kind.Free f a) (free_row w (lock_at w a.word.0) a.hart p)
  Waits : (f : ClusterId) (t : HartId) (n : ℕ) (word : WordAddr) (v : ℕ) → in_range w c (LockAsk t n word v) ≡ true
      → LockView w c p (kind.Take f (LockAsk t n word v)) (quiet (queued (lock_at w word.0) (record { hart = t.0; number = n; value = v }) p))
  Granted : (f : ClusterId) (t : HartId) (q : Part) → q.locks ≡ p.locks → LockView w c p (kind.Take f (LockGrant t)) (quiet q)
  Freed : (f : ClusterId) (t : HartId) (old : ℕ) (q : Part) → q.locks ≡ p.locks → LockView w c p (kind.Take f (UnlockAck t old)) (quiet q)
  Drops : (f : ClusterId) (m : Msg) → applies w c m p && has_case f.0 m p ≡ false → LockView w c p (kind.Take f m) (quiet p)

module _ (w : Config) (c : ℕ) (e : Kind) (i : IsPlain e) (p : Part) where
  still : (q : Part) → q.locks ≡ p.locks → LockView w c p e (quiet q)
  still q s = Plain e (quiet q) (record { plain = i; line = 0; sent = tt; locks = s })

  acted : (l : ℕ) (a : Act) (q : Part) → q.locks ≡ p.locks → LockView w c p e (acts w l a q)
  acted l a q s = Plain e (acts w l a q) (record { plain = i; line = l; sent = act_sends l (home_of w l) a (q.cells l) (q.homes l); locks = s })

  hinted : (g : ℕ) (slot : Option ℕ) (k : HintKind) (a : ℕ) (q : Part) → q.locks ≡ p.locks → LockView w c p e (hint_row w g slot (needed.Hint k a) q)
  hinted g (Some n) Exclusive a q s = acted (line_at w a) (AskOwn n g) q s
  hinted g (Some n) Shared a q s = acted (line_at w a) (AskRead n g) q s
  hinted g (Some n) Fetch a q s = acted (line_at w a) (AskRead n g) q s
  hinted g None k a q s = still q s

  drained : (g k : ℕ) (b : List Stored) → LockView w c p e (commit_row w g k b p)
  drained g k [] = still p refl
  drained g k (x ∷ xs) = acted k (Commit g (written_in w x.word.0 x.mask x.value (content (p.cells k).copy))) (change g (record (p.harts g) { buffer = xs }) p) refl

  taken_line : (f : ℕ) (q : LineId) (m : Msg) → is_of q.0 m ≡ true → LockView w c p e (line_msg_row w c f q m p)
  taken_line f q m o = Plain e (line_msg_row w c f q m p) (record { plain = i; line = q.0; sent = take_sends q.0 (first_prefetch w) (home_of w q.0) c f m (p.cells q.0) (p.homes q.0) o; locks = refl })

-- the access of a Grant is that of the waiter
pub grants_to : (h number value old : ℕ) (word : WordAddr) (a : Access) → Some (unseen a) ≡ offered h number (needed.Ask word value) old true → a.hart.0 ≡ h
grants_to h number value old word a made = ap (λ (x : Access). x.hart.0) (ap (λ o. unwrap_or o (unseen a)) made)

answered_locks : (h : ℕ) (b : Bool) (d : HartEffect) (p : Part) → (answered h b d p).locks ≡ p.locks
answered_locks h true d p = refl
answered_locks h false d p = refl

no_case : (b : Bool) → b && false ≡ false
no_case true = refl
no_case false = refl

taken_msg : (w : Config) (c : ℕ) (f : ClusterId) (m : Msg) (d : HartEffect) (p : Part) → applies w c m p ≡ true → LockView w c p (kind.Take f m) (msg_row w c f.0 m d p)
taken_msg w c f (Read q) d p k = taken_line w c (kind.Take f (Read q)) tt p f.0 q (Read q) (same q.0)
taken_msg w c f (ReadEx q) d p k = taken_line w c (kind.Take f (ReadEx q)) tt p f.0 q (ReadEx q) (same q.0)
taken_msg w c f (FwdRead q r) d p k = taken_line w c (kind.Take f (FwdRead q r)) tt p f.0 q (FwdRead q r) (same q.0)
taken_msg w c f (FwdReadEx q r) d p k = taken_line w c (kind.Take f (FwdReadEx q r)) tt p f.0 q (FwdReadEx q r) (same q.0)
taken_msg w c f (Inval q r) d p k = taken_line w c (kind.Take f (Inval q r)) tt p f.0 q (Inval q r) (same q.0)
taken_msg w c f (WriteBack q x) d p k = taken_line w c (kind.Take f (WriteBack q x)) tt p f.0 q (WriteBack q x) (same q.0)
taken_msg w c f (SharingBack q x r) d p k = taken_line w c (kind.Take f (SharingBack q x r)) tt p f.0 q (SharingBack q x r) (same q.0)
taken_msg w c f (Transfer q r) d p k = taken_line w c (kind.Take f (Transfer q r)) tt p f.0 q (Transfer q r) (same q.0)
taken_msg w c f (Data q x) d p k = taken_line w c (kind.Take f (Data q x)) tt p f.0 q (Data q x) (same q.0)
taken_msg w c f (DataEx q x n) d p k = taken_line w c (kind.Take f (DataEx q x n)) tt p f.0 q (DataEx q x n) (same q.0)
taken_msg w c f (Ack q) d p k = taken_line w c (kind.Take f (Ack q)) tt p f.0 q (Ack q) (same q.0)
taken_msg w c f (TransferAck q) d p k = taken_line w c (kind.Take f (TransferAck q)) tt p f.0 q (TransferAck q) (same q.0)
taken_msg w c f (Nak q) d p k = taken_line w c (kind.Take f (Nak q)) tt p f.0 q (Nak q) (same q.0)
taken_msg w c f (LockAsk t n word v) d p k = Waits f t n word v (both_left (in_range w c (LockAsk t n word v)) (has_space w c (LockAsk t n word v) p) k)
taken_msg w c f (Unlock t n word) d p k = Drops f (Unlock t n word) (no_case (applies w c (Unlock t n word) p))
taken_msg w c f (LockGrant t) d p k = Granted f t (answered t.0 (p.harts t.0).asked d p) (answered_locks t.0 (p.harts t.0).asked d p)
taken_msg w c f (UnlockAck t old) d p k = Freed f t old (answered t.0 (p.harts t.0).asked d p) (answered_locks t.0 (p.harts t.0).asked d p)

taken_if : (w : Config) (c : ℕ) (f : ClusterId) (m : Msg) (d : HartEffect) (p : Part) (b : Bool) → applies w c m p ≡ b → LockView w c p (kind.Take f m) (msg_row_if b w c f.0 m d p)
taken_if w c f m d p true k = taken_msg w c f m d p k
taken_if w c f m d p false k = Drops f m (ap (λ x. x && has_case f.0 m p) k)

-- each event
pub lock_view : (w : Config) (c : ℕ) (e : Kind) (d : HartEffect) (p : Part) → Guard w c e d p → LockView w c p e (row w c e d p)
unfolding row Guard
lock_view w c (kind.Hint g pc slot) d p can = subst (λ n. LockView w c p (kind.Hint g pc slot) (hint_row w g.0 slot n (retire g.0 d p))) (sym can.next.retires.need_is) (hinted w c (kind.Hint g pc slot) tt p g.0 slot can.kinds can.address (retire g.0 d p) refl)
lock_view w c (kind.Commit g n k v) d p can = drained w c (kind.Commit g n k v) tt p g.0 k.0 (p.harts g.0).buffer
lock_view w c (kind.Rmw a k v) d p can = acted w c (kind.Rmw a k v) tt p k.0 (Commit a.hart.0 (written_in w a.word.0 a.mask (unwrap_or a.written 0) (content (p.cells k.0).copy))) (change a.hart.0 (record (p.harts a.hart.0) { core = d.next; reserved = rmw_reserved a.op (p.harts a.hart.0).reserved }) p) refl
lock_view w c (kind.LockSend g m) d p can = Sends g m can.need (change g.0 (record (p.harts g.0) { asked = true }) p) can.mine can.needs can.sends refl
lock_view w c (kind.BusRead g k) d p can = acted w c (kind.BusRead g k) tt p k.0 (BusRead g.0) p refl
lock_view w c (kind.BusOwn g k) d p can = acted w c (kind.BusOwn g k) tt p k.0 (BusOwn g.0) p refl
lock_view w c (kind.Evict g k) d p can = acted w c (kind.Evict g k) tt p k.0 (evict_act g.0 (p.cells k.0).copy) p refl
lock_view w c (kind.Ask slot g k own) d p can = acted w c (kind.Ask slot g k own) tt p k.0 (ask_act own slot g.0) p refl
lock_view w c (kind.Again slot k) d p can = acted w c (kind.Again slot k) tt p k.0 Again p refl
lock_view w c (kind.Install slot g k) d p can = acted w c (kind.Install slot g k) tt p k.0 Install (change g.0 (kept w k.0 (p.cells k.0).slot (held_by g.0 (p.cells k.0).copy) (p.harts g.0)) p) refl
lock_view w c (kind.Grant a) d p can = subst (λ y. LockView w c p (kind.Grant a) (grant_row w (lock_at w a.word.0) y p)) (sym can.queue) (Grants a can.waiter can.others can.mine can.queue (grants_to can.waiter.hart can.waiter.number can.waiter.value 0 a.word a can.access.made))
lock_view w c (kind.Free f a) d p can = Frees f a can.serves
lock_view w c (kind.Take f m) d p can = taken_if w c f m d p (applies w c m p) refl
lock_view w c e d p can = Plain e (row w c e d p) (record { plain = tt; line = 0; sent = tt; locks = refl })
