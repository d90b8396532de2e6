-- What becomes of each hart at each event: it rests, does an instruction, sends its lock message, or is answered.
use Rattle.std.proofs.Common.{◌≡◌, ◌≢◌, ℕ, ◌==◌, ◌&&◌, Bool, true, false, not, cond, Option, Some, None, List, [], ◌∷◌, ◌++◌, refl, sym, subst, arith}
use Rattle.std.specs.Prelude.{unwrap_or}
use Rattle.std.proofs.lemmas.Bool.Decides.{nat_tests}
use Rattle.dash_base.specs.declared.id.ClusterId.{ClusterId}
use Rattle.dash_base.specs.declared.id.LineId.{LineId}
use Rattle.dash_msg.specs.declared.msg.Msg.{Msg}
use Rattle.dash_msg.specs.declared.msg.Msg.TheVariants.{Read, ReadEx, FwdRead, FwdReadEx, Inval, WriteBack, SharingBack, Transfer, Data, DataEx, Ack, TransferAck, Nak, LockAsk, Unlock, LockGrant, UnlockAck}
use Rattle.dash_event.specs.declared.access.Access.{Access}
use Rattle.dash_event.specs.declared.event.Kind.{Kind}
use Rattle.dash_event.specs.declared.event.Kind.TheVariants as kind
use Rattle.dash_base.specs.declared.need.HintKind.{HintKind}
use Rattle.dash_base.specs.declared.need.HintKind.TheVariants.{Fetch, Shared, Exclusive}
use Rattle.write_buffer.specs.declared.entry.Entry.{Entry as Stored}
use Rattle.write_buffer.specs.declared.entry.Look.{Look}
use Rattle.write_buffer.specs.declared.entry.Look.TheVariants.{Hit}
use Rattle.write_buffer.specs.Look.{newest_of, look_by}
use Rattle.hart_core.specs.Meaning.{Does}
use Rattle.dash_base.specs.declared.need.Need.{Need}
use Rattle.dash_base.specs.declared.need.Need.TheVariants as needed
use Rattle.dash_event.specs.Effects.{reply}
use Rattle.dash_model.specs.Maps.{upd}
use Rattle.dash_model.specs.Config.{Config, line_at, lock_at, line_id, home_of, first_prefetch}
use Rattle.dash_model.specs.Cell.{Slot, NoSlot, Reads, Owns}
use Rattle.dash_model.specs.Part.{Processor, Waiter, Part}
use Rattle.dash_model.specs.Acts.{Act, AskRead, AskOwn, Again, Install, Commit, BusRead, BusOwn, act_row}
use Rattle.dash_model.specs.LineRows.{take_row}
use Rattle.dash_model.specs.LineEffect.{LineEffect}
use Rattle.dash_model.specs.Words.{held_by, content, written_in}
use Rattle.dash_model.specs.HartRows.{HartEffect, cleared, on_line, acts, change, retire, hint_row, loaded_from, commit_row, entry_of, kept, rmw_reserved, evict_act, ask_act}
use Rattle.dash_model.specs.HartGuards.{LockSends}
use Rattle.dash_model.specs.Guard.{Guard, DoesIf, TakeFits}
use Rattle.dash_model.specs.LockRows.{grant_row, answered}
use Rattle.dash_model.specs.Ranges.{own_hart, in_range, has_space, applies}
use Rattle.dash_model.specs.Row.{row, line_msg_row, msg_row, msg_row_if}
use Rattle.dash_model.specs.OnLine.{one}
use Rattle.dash_model.specs.LockFacts.{IsLock, NeedsLock}
use Rattle.dash_model.specs.Cases.{FindsCase, TakesWell}
use Rattle.dash_model.proofs.Tests.{both, one_same, one_other}

-- 1 where the event sends the lock message of hart h, and where it takes the answer
abbrev pub asks_now : Kind → ℕ → ℕ
asks_now (kind.LockSend g m) h = one g.0 h
asks_now e h = 0

abbrev pub answers_now : Kind → ℕ → ℕ
answers_now (kind.Take f (LockGrant g)) h = one g.0 h
answers_now (kind.Take f (UnlockAck g old)) h = one g.0 h
answers_now e h = 0

-- the event does neither
abbrev pub Idle : Kind → ℕ → Type 0
Idle e h = (asks_now e h ≡ 0) × (answers_now e h ≡ 0)

-- what becomes of the hart
pub data HartStep (w : Config) (e : Kind) (h : ℕ) (s t : Processor) : Type 0 where
  Rests : Idle e h → t.core ≡ s.core → t.asked ≡ s.asked → HartStep w e h s t
  Works : Idle e h → (need : Need) (answer : ℕ) → Does w.image w.top s.core need answer t.core → (IsLock need → ⊥) → t.asked ≡ s.asked → HartStep w e h s t
  Sends : asks_now e h ≡ 1 → answers_now e h ≡ 0 → t.core ≡ s.core → s.asked ≡ false → t.asked ≡ true → NeedsLock w s.core → HartStep w e h s t
  Answered : asks_now e h ≡ 0 → answers_now e h ≡ 1 → (need : Need) (answer : ℕ) → Does w.image w.top s.core need answer t.core → s.asked ≡ true → t.asked ≡ false → HartStep w e h s t

module _ (w : Config) (e : Kind) where
  -- clearing what a hart held changes neither
  cleared_where_lost_stays : (l h : ℕ) (s t : Processor) (b : Bool) → HartStep w e h s t → HartStep w e h s (cond b (cleared w l t) t)
  cleared_where_lost_stays l h s t false k = k
  cleared_where_lost_stays l h s t true (Rests i c a) = Rests i c a
  cleared_where_lost_stays l h s t true (Works i n x d u a) = Works i n x d u a
  cleared_where_lost_stays l h s t true (Sends i j c a b n) = Sends i j c a b n
  cleared_where_lost_stays l h s t true (Answered i j n x d a b) = Answered i j n x d a b

  -- other harts rest
  at_hart : (g h : ℕ) (hs : ℕ → Processor) (t : Processor) (b : Bool) → (h == g) ≡ b → (g ≢ h → Idle e h) → HartStep w e g (hs g) t → HartStep w e h (hs h) (cond b t (hs h))
  at_hart g h hs t true is idle k = let same : h ≡ g = grind (arith, nat_tests) in subst (λ z. HartStep w e z (hs z) t) (sym same) k
  at_hart g h hs t false is idle k = let differs : g ≢ h = grind (arith, nat_tests) in Rests (idle differs) refl refl

  changed : (g h : ℕ) (p : Part) (t : Processor) → (g ≢ h → Idle e h) → HartStep w e g (p.harts g) t → HartStep w e h (p.harts h) ((change g t p).harts h)
  changed g h p t idle k = at_hart g h p.harts t (h == g) refl idle k

  -- a row of a line, after a change of harts
  lined : (l : ℕ) (x : LineEffect) (h : ℕ) (p : Part) (hs : ℕ → Processor) → HartStep w e h (p.harts h) (hs h) → HartStep w e h (p.harts h) ((on_line w l x (record p { harts = hs })).part.harts h)
  lined l x h p hs k = cleared_where_lost_stays l h (p.harts h) (hs h) (held_by h (p.cells l).copy && not (held_by h x.cell.copy)) k

  acted : (l : ℕ) (a : Act) (h : ℕ) (p : Part) (hs : ℕ → Processor) → HartStep w e h (p.harts h) (hs h) → HartStep w e h (p.harts h) ((acts w l a (record p { harts = hs })).part.harts h)
  acted l a h p hs k = lined l (act_row (line_id l) (home_of w l) a (p.cells l) (p.homes l)) h p hs k

  rests : (h : ℕ) (s : Processor) → Idle e h → HartStep w e h s s
  rests h s i = Rests i refl refl

  -- a hart that did its instruction, which is no lock instruction
  did : (g h answer : ℕ) (p : Part) (d : HartEffect) (need : Need) → d.need ≡ need → (IsLock need → ⊥) → ((k : ℕ) → Idle e k) → Does w.image w.top (p.harts g).core d.need answer d.next → HartStep w e h (p.harts h) ((retire g d p).harts h)
  did g h answer p d need is other idle does = changed g h p (record (p.harts g) { core = d.next }) (λ n. idle h) (Works (idle g) d.need answer does (λ y. other (subst IsLock is y)) refl)

  hinted : (g h : ℕ) (slot : Option ℕ) (k : HintKind) (a : ℕ) (p : Part) (hs : ℕ → Processor) → HartStep w e h (p.harts h) (hs h) → HartStep w e h (p.harts h) ((hint_row w g slot (needed.Hint k a) (record p { harts = hs })).part.harts h)
  hinted g h (Some n) Exclusive a p hs b = acted (line_at w a) (AskOwn n g) h p hs b
  hinted g h (Some n) Shared a p hs b = acted (line_at w a) (AskRead n g) h p hs b
  hinted g h (Some n) Fetch a p hs b = acted (line_at w a) (AskRead n g) h p hs b
  hinted g h None k a p hs b = b

  loaded : (a : Access) (l h : ℕ) (look : Look) (s t : Processor) → HartStep w e h s t → HartStep w e h s (loaded_from w a l look t)
  loaded a l h (Hit v k) s t b = b
  loaded a l h _ s t (Rests i c x) = Rests i c x
  loaded a l h _ s t (Works i n x d u z) = Works i n x d u z
  loaded a l h _ s t (Sends i j c x b n) = Sends i j c x b n
  loaded a l h _ s t (Answered i j n x d z b) = Answered i j n x d z b

  drained : (g k h : ℕ) (p : Part) (b : List Stored) → ((k : ℕ) → Idle e k) → HartStep w e h (p.harts h) ((commit_row w g k b p).part.harts h)
  drained g k h p [] idle = rests h (p.harts h) (idle h)
  drained g k h p (x ∷ xs) idle =
      let next = record (p.harts g) { buffer = xs } in
      acted k (Commit g (written_in w x.word.0 x.mask x.value (content (p.cells k).copy))) h p (upd p.harts g next) (changed g h p next (λ n. idle h) (Rests (idle g) refl refl))

  keeps : (l h : ℕ) (slot : Slot) (b : Bool) (s : Processor) → Idle e h → HartStep w e h s (kept w l slot b s)
  keeps l h (Owns n t phase) false s i = Rests i refl refl
  keeps l h (Owns n t phase) true s i = rests h s i
  keeps l h (Reads n t phase) b s i = rests h s i
  keeps l h NoSlot b s i = rests h s i

  granted : (i h : ℕ) (q : List Waiter) (p : Part) → Idle e h → HartStep w e h (p.harts h) ((grant_row w i q p).part.harts h)
  granted i h [] p k = rests h (p.harts h) k
  granted i h (x ∷ xs) p k = rests h (p.harts h) k

  taken_line : (c f : ℕ) (q : LineId) (m : Msg) (h : ℕ) (p : Part) → Idle e h → HartStep w e h (p.harts h) ((line_msg_row w c f q m p).part.harts h)
  taken_line c f q m h p i = lined q.0 (take_row (first_prefetch w) (home_of w q.0) c f m (p.cells q.0) (p.homes q.0)) h p p.harts (rests h (p.harts h) i)

lock_sent : (h : ℕ) (m : Msg) (need : Need) (p : Part) → LockSends h m need p → IsLock need
lock_sent h m (needed.Ask word value) p e = tt
lock_sent h m (needed.Unlock word) p e = tt
lock_sent h m _ p e = absurd e

-- an answer to a hart whose lock instruction was sent
answer_done : (w : Config) (e : Kind) (g h answer : ℕ) (p : Part) (d : HartEffect) (own asked : Bool) → own ≡ true → asked ≡ true → (p.harts g).asked ≡ asked → asks_now e g ≡ 0 → answers_now e g ≡ 1 → (g ≢ h → Idle e h)
    → DoesIf (own && (p.harts g).asked) w g answer d p → HartStep w e h (p.harts h) ((answered g asked d p).harts h)
answer_done w e g h answer p d own false mine sent is i j idle does = absurd (cc)
answer_done w e g h answer p d own true mine sent is i j idle does =
    let case : own && (p.harts g).asked ≡ true = both own (p.harts g).asked mine is in
    let done = subst (λ z. DoesIf z w g answer d p) case does in
    changed w e g h p (record (p.harts g) { core = d.next; asked = false }) idle (Answered i j d.need answer done is refl)

taken_msg : (w : Config) (c : ℕ) (f : ClusterId) (m : Msg) (h : ℕ) (d : HartEffect) (p : Part) → FindsCase w c f.0 m p → TakeFits w c m d p → HartStep w (kind.Take f m) h (p.harts h) ((msg_row w c f.0 m d p).part.harts h)
taken_msg w c f (Read q) h d p k fits = taken_line w (kind.Take f (Read q)) c f.0 q (Read q) h p (refl, refl)
taken_msg w c f (ReadEx q) h d p k fits = taken_line w (kind.Take f (ReadEx q)) c f.0 q (ReadEx q) h p (refl, refl)
taken_msg w c f (FwdRead q r) h d p k fits = taken_line w (kind.Take f (FwdRead q r)) c f.0 q (FwdRead q r) h p (refl, refl)
taken_msg w c f (FwdReadEx q r) h d p k fits = taken_line w (kind.Take f (FwdReadEx q r)) c f.0 q (FwdReadEx q r) h p (refl, refl)
taken_msg w c f (Inval q r) h d p k fits = taken_line w (kind.Take f (Inval q r)) c f.0 q (Inval q r) h p (refl, refl)
taken_msg w c f (WriteBack q x) h d p k fits = taken_line w (kind.Take f (WriteBack q x)) c f.0 q (WriteBack q x) h p (refl, refl)
taken_msg w c f (SharingBack q x r) h d p k fits = taken_line w (kind.Take f (SharingBack q x r)) c f.0 q (SharingBack q x r) h p (refl, refl)
taken_msg w c f (Transfer q r) h d p k fits = taken_line w (kind.Take f (Transfer q r)) c f.0 q (Transfer q r) h p (refl, refl)
taken_msg w c f (Data q x) h d p k fits = taken_line w (kind.Take f (Data q x)) c f.0 q (Data q x) h p (refl, refl)
taken_msg w c f (DataEx q x n) h d p k fits = taken_line w (kind.Take f (DataEx q x n)) c f.0 q (DataEx q x n) h p (refl, refl)
taken_msg w c f (Ack q) h d p k fits = taken_line w (kind.Take f (Ack q)) c f.0 q (Ack q) h p (refl, refl)
taken_msg w c f (TransferAck q) h d p k fits = taken_line w (kind.Take f (TransferAck q)) c f.0 q (TransferAck q) h p (refl, refl)
taken_msg w c f (Nak q) h d p k fits = taken_line w (kind.Take f (Nak q)) c f.0 q (Nak q) h p (refl, refl)
taken_msg w c f (LockAsk t n word v) h d p k fits = Rests (refl, refl) refl refl
taken_msg w c f (Unlock t n word) h d p k fits = Rests (refl, refl) refl refl
taken_msg w c f (LockGrant t) h d p k fits = answer_done w (kind.Take f (LockGrant t)) t.0 h 0 p d (own_hart w c t) (p.harts t.0).asked k.range k.case refl refl (one_same t.0) (λ n. (refl, one_other t.0 h n)) fits
taken_msg w c f (UnlockAck t old) h d p k fits = answer_done w (kind.Take f (UnlockAck t old)) t.0 h old p d (own_hart w c t) (p.harts t.0).asked k.range k.case refl refl (one_same t.0) (λ n. (refl, one_other t.0 h n)) fits

taken_if : (w : Config) (c : ℕ) (f : ClusterId) (m : Msg) (h : ℕ) (d : HartEffect) (p : Part) (b : Bool) → b ≡ true → FindsCase w c f.0 m p → TakeFits w c m d p → HartStep w (kind.Take f m) h (p.harts h) ((msg_row_if b w c f.0 m d p).part.harts h)
taken_if w c f m h d p true is k fits = taken_msg w c f m h d p k fits
taken_if w c f m h d p false is k fits = absurd (cc)

-- each event
pub hart_step : (w : Config) (c : ℕ) (e : Kind) (d : HartEffect) (p : Part) (h : ℕ) → Guard w c e d p → TakesWell w c e p → HartStep w e h (p.harts h) ((row w c e d p).part.harts h)
unfolding row Guard
hart_step w c (kind.Alu g pc) d p h can well = did w (kind.Alu g pc) g.0 h 0 p d needed.Alu can.retires.need_is (λ y. y) (λ k. (refl, refl)) can.retires.does
hart_step w c (kind.Fence g pc) d p h can well = did w (kind.Fence g pc) g.0 h 0 p d (needed.Fence can.waits) can.next.retires.need_is (λ y. y) (λ k. (refl, refl)) can.next.retires.does
hart_step w c (kind.Hint g pc slot) d p h can well = subst (λ n. HartStep w (kind.Hint g pc slot) h (p.harts h) ((hint_row w g.0 slot n (retire g.0 d p)).part.harts h)) (sym can.next.retires.need_is) (hinted w (kind.Hint g pc slot) g.0 h slot can.kinds can.address p (retire g.0 d p).harts (did w (kind.Hint g pc slot) g.0 h 0 p d (needed.Hint can.kinds can.address) can.next.retires.need_is (λ y. y) (λ k. (refl, refl)) can.next.retires.does))
hart_step w c (kind.Put g pc byte) d p h can well = did w (kind.Put g pc byte) g.0 h 0 p d (needed.Put byte) can.retires.need_is (λ y. y) (λ k. (refl, refl)) can.retires.does
hart_step w c (kind.Stop g pc end) d p h can well = did w (kind.Stop g pc end) g.0 h 0 p d (needed.Stop end) can.retires.need_is (λ y. y) (λ k. (refl, refl)) can.retires.does
hart_step w c (kind.Load a level) d p h can well =
    let next = record (p.harts a.hart.0) { core = d.next } in
    let look = look_by (newest_of a.word.0 (p.harts a.hart.0).buffer) a.mask in
    changed w (kind.Load a level) a.hart.0 h p (loaded_from w a (line_at w a.word.0) look next) (λ n. (refl, refl)) (loaded w (kind.Load a level) a (line_at w a.word.0) a.hart.0 look (p.harts a.hart.0) next (Works (refl, refl) d.need (reply a.read a.written) can.next.does (λ y. subst IsLock can.next.need_is y) refl))
hart_step w c (kind.Store a) d p h can well =
    changed w (kind.Store a) a.hart.0 h p (record (p.harts a.hart.0) { core = d.next; buffer = (p.harts a.hart.0).buffer ++ entry_of a ∷ [] }) (λ n. (refl, refl)) (Works (refl, refl) d.need (reply a.read a.written) can.next.does (λ y. subst IsLock can.next.need_is y) refl)
hart_step w c (kind.Commit g n k v) d p h can well = drained w (kind.Commit g n k v) g.0 k.0 h p (p.harts g.0).buffer (λ x. (refl, refl))
hart_step w c (kind.Rmw a k v) d p h can well =
    let next = record (p.harts a.hart.0) { core = d.next; reserved = rmw_reserved a.op (p.harts a.hart.0).reserved } in
    acted w (kind.Rmw a k v) k.0 (Commit a.hart.0 (written_in w a.word.0 a.mask (unwrap_or a.written 0) (content (p.cells k.0).copy))) h p (upd p.harts a.hart.0 next) (changed w (kind.Rmw a k v) a.hart.0 h p next (λ n. (refl, refl)) (Works (refl, refl) d.need (reply a.read a.written) can.next.does (λ y. subst IsLock can.next.need_is y) refl))
hart_step w c (kind.ScFail a) d p h can well = changed w (kind.ScFail a) a.hart.0 h p (record (p.harts a.hart.0) { core = d.next; reserved = None }) (λ n. (refl, refl)) (Works (refl, refl) d.need (reply a.read a.written) can.next.does (λ y. subst IsLock can.next.need_is y) refl)
hart_step w c (kind.LockSend g m) d p h can well = changed w (kind.LockSend g m) g.0 h p (record (p.harts g.0) { asked = true }) (λ n. (one_other g.0 h n, refl)) (Sends (one_same g.0) refl refl can.unsent refl (record { need = can.need; needs = can.needs; lock = lock_sent g.0 m can.need p can.sends }))
hart_step w c (kind.BusRead g k) d p h can well = acted w (kind.BusRead g k) k.0 (BusRead g.0) h p p.harts (rests w (kind.BusRead g k) h (p.harts h) (refl, refl))
hart_step w c (kind.BusOwn g k) d p h can well = acted w (kind.BusOwn g k) k.0 (BusOwn g.0) h p p.harts (rests w (kind.BusOwn g k) h (p.harts h) (refl, refl))
hart_step w c (kind.Evict g k) d p h can well = acted w (kind.Evict g k) k.0 (evict_act g.0 (p.cells k.0).copy) h p p.harts (rests w (kind.Evict g k) h (p.harts h) (refl, refl))
hart_step w c (kind.Ask slot g k own) d p h can well = acted w (kind.Ask slot g k own) k.0 (ask_act own slot g.0) h p p.harts (rests w (kind.Ask slot g k own) h (p.harts h) (refl, refl))
hart_step w c (kind.Again slot k) d p h can well = acted w (kind.Again slot k) k.0 Again h p p.harts (rests w (kind.Again slot k) h (p.harts h) (refl, refl))
hart_step w c (kind.Install slot g k) d p h can well =
    let next = kept w k.0 (p.cells k.0).slot (held_by g.0 (p.cells k.0).copy) (p.harts g.0) in
    acted w (kind.Install slot g k) k.0 Install h p (upd p.harts g.0 next) (changed w (kind.Install slot g k) g.0 h p next (λ n. (refl, refl)) (keeps w (kind.Install slot g k) k.0 g.0 (p.cells k.0).slot (held_by g.0 (p.cells k.0).copy) (p.harts g.0) (refl, refl)))
hart_step w c (kind.Grant a) d p h can well = granted w (kind.Grant a) (lock_at w a.word.0) h (p.locks (lock_at w a.word.0)).queue p (refl, refl)
hart_step w c (kind.Free f a) d p h can well = rests w (kind.Free f a) h (p.harts h) (refl, refl)
hart_step w c (kind.Take f m) d p h can well = taken_if w c f m h d p (applies w c m p) (both (in_range w c m) (has_space w c m p) well.range well.room) well can
