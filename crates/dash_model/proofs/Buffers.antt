-- What becomes of each hart's write buffer at each event.
use Rattle.std.proofs.Common.{◌≡◌, ◌≢◌, ℕ, ◌+◌, ◌≤◌, ◌==◌, ◌&&◌, Bool, true, false, not, cond, Option, Some, None, List, [], ◌∷◌, ◌++◌, unwrap_or, refl, sym, ap, ◌∙◌, subst, arith}
use Rattle.std.proofs.lemmas.Bool.Decides.{nat_tests}
use Rattle.dash_msg.specs.declared.msg.Msg.{Msg}
use Rattle.dash_msg.specs.declared.msg.Msg.TheVariants.{Read, ReadEx, FwdRead, FwdReadEx, Inval, WriteBack, SharingBack, Transfer, Data, DataEx, Ack, TransferAck, Nak, LockAsk, Unlock, LockGrant, UnlockAck}
use Rattle.dash_event.specs.Records.{unseen}
use Rattle.dash_event.specs.declared.access.Access.{Access}
use Rattle.dash_event.specs.declared.event.Kind.{Kind}
use Rattle.dash_event.specs.declared.event.Kind.TheVariants as kind
use Rattle.dash_base.specs.declared.need.HintKind.TheVariants.{Fetch, Shared, Exclusive}
use Rattle.write_buffer.specs.declared.entry.Entry.{Entry as Stored}
use Rattle.write_buffer.specs.declared.entry.Look.{Look}
use Rattle.write_buffer.specs.declared.entry.Look.TheVariants.{Hit}
use Rattle.write_buffer.specs.Look.{newest_of, look_by}
use Rattle.hart_core.specs.HartState.{HartState}
use Rattle.hart_core.specs.Meaning.{Does, retired_after}
use Rattle.dash_base.specs.declared.need.Need.{Need}
use Rattle.dash_base.specs.declared.need.Need.TheVariants as needed
use Rattle.hart_core.proofs.LawsOffered.{retires}
use Rattle.dash_event.specs.Offered.{offered}
use Rattle.dash_model.specs.Maps.{upd}
use Rattle.dash_model.specs.Config.{Config, line_at, lock_at, line_id, home_of, first_prefetch}
use Rattle.dash_model.specs.Cell.{Slot, NoSlot, Reads, Owns}
use Rattle.dash_model.specs.Part.{Processor, Waiter, Part}
use Rattle.dash_model.specs.Acts.{Act, AskRead, AskOwn, Again, Install, Commit, BusRead, BusOwn, act_row}
use Rattle.dash_model.specs.LineRows.{take_row}
use Rattle.dash_model.specs.LineEffect.{LineEffect}
use Rattle.dash_model.specs.Words.{held_by, content, written_in}
use Rattle.dash_event.specs.Effects.{reply}
use Rattle.dash_base.specs.declared.id.WordAddr.{WordAddr}
use Rattle.dash_base.specs.declared.id.HartId.{HartId}
use Rattle.dash_base.specs.declared.id.LineId.{LineId}
use Rattle.dash_base.specs.declared.need.HintKind.{HintKind}
use Rattle.dash_model.specs.HartRows.{HartEffect, cleared, on_line, acts, change, retire, hint_row, loaded_from, commit_row, entry_of, kept, rmw_reserved, evict_act, ask_act}
use Rattle.dash_model.specs.HartGuards.{number_of}
use Rattle.dash_model.specs.Guard.{Guard, DoesIf, TakeFits}
use Rattle.dash_model.specs.LockRows.{grant_row, answered}
use Rattle.dash_model.specs.Ranges.{own_hart, applies}
use Rattle.dash_model.specs.Row.{row, line_msg_row, msg_row, msg_row_if}

-- what becomes of a hart's buffer: it stays, loses the oldest store, or gets one more
pub data Buffer (e : Kind) (h : ℕ) (s t : Processor) : Type 0 where
  Kept : t.buffer ≡ s.buffer → s.core.retired ≤ t.core.retired → Buffer e h s t
  Dropped : (x : Stored) (g : HartId) (n : ℕ) (k : LineId) (v : ℕ) → e ≡ kind.Commit g n k v → s.buffer ≡ x ∷ t.buffer → s.core.retired ≤ t.core.retired → Buffer e h s t
  Added : (a : Access) → e ≡ kind.Store a → a.hart.0 ≡ h → a.number ≡ s.core.retired + 1 → t.buffer ≡ s.buffer ++ entry_of a ∷ [] → t.core.retired ≡ s.core.retired + 1 → Buffer e h s t

-- clearing what a hart held leaves its buffer
cleared_where_lost_stays : (w : Config) (l h : ℕ) (e : Kind) (s t : Processor) (b : Bool) → Buffer e h s t → Buffer e h s (cond b (cleared w l t) t)
cleared_where_lost_stays w l h e s t false k = k
cleared_where_lost_stays w l h e s t true (Kept b r) = Kept b r
cleared_where_lost_stays w l h e s t true (Dropped z g n k v q b r) = Dropped z g n k v q b r
cleared_where_lost_stays w l h e s t true (Added a is mine number b r) = Added a is mine number b r

-- other harts stay
at_hart : (e : Kind) (g h : ℕ) (hs : ℕ → Processor) (t : Processor) (b : Bool) → (h == g) ≡ b → Buffer e g (hs g) t → Buffer e h (hs h) (cond b t (hs h))
at_hart e g h hs t true is k = let same : h ≡ g = grind (arith, nat_tests) in subst (λ z. Buffer e z (hs z) t) (sym same) k
at_hart e g h hs t false is k = Kept refl (omega arith)

changed : (e : Kind) (g h : ℕ) (p : Part) (t : Processor) → Buffer e g (p.harts g) t → Buffer e h (p.harts h) ((change g t p).harts h)
changed e g h p t k = at_hart e g h p.harts t (h == g) refl k

-- a hart that does an instruction retires no less
no_less : (w : Config) (h k : HartState) (need : Need) (answer : ℕ) → Does w.image w.top h need answer k → h.retired ≤ k.retired
no_less w h k need answer d = let now = retires w.image w.top h k need answer d in grind arith

-- what a row of a line does to the harts, after a change of harts
lined : (w : Config) (l : ℕ) (x : LineEffect) (e : Kind) (h : ℕ) (p : Part) (hs : ℕ → Processor) → Buffer e h (p.harts h) (hs h) → Buffer e h (p.harts h) ((on_line w l x (record p { harts = hs })).part.harts h)
lined w l x e h p hs k = cleared_where_lost_stays w l h e (p.harts h) (hs h) (held_by h (p.cells l).copy && not (held_by h x.cell.copy)) k

acted : (w : Config) (l : ℕ) (a : Act) (e : Kind) (h : ℕ) (p : Part) (hs : ℕ → Processor) → Buffer e h (p.harts h) (hs h) → Buffer e h (p.harts h) ((acts w l a (record p { harts = hs })).part.harts h)
acted w l a e h p hs k = lined w l (act_row (line_id l) (home_of w l) a (p.cells l) (p.homes l)) e h p hs k

stays : (e : Kind) (h : ℕ) (s : Processor) → Buffer e h s s
stays e h s = Kept refl (omega arith)

-- a hart that did its instruction
did : (w : Config) (e : Kind) (g h answer : ℕ) (p : Part) (d : HartEffect) → Does w.image w.top (p.harts g).core d.need answer d.next → Buffer e h (p.harts h) ((retire g d p).harts h)
did w e g h answer p d does = changed e g h p (record (p.harts g) { core = d.next }) (Kept refl (no_less w (p.harts g).core d.next d.need answer does))

-- Hint
hinted : (w : Config) (e : Kind) (g h : ℕ) (slot : Option ℕ) (k : HintKind) (a : ℕ) (p : Part) (hs : ℕ → Processor) → Buffer e h (p.harts h) (hs h) → Buffer e h (p.harts h) ((hint_row w g slot (needed.Hint k a) (record p { harts = hs })).part.harts h)
hinted w e g h (Some n) Exclusive a p hs b = acted w (line_at w a) (AskOwn n g) e h p hs b
hinted w e g h (Some n) Shared a p hs b = acted w (line_at w a) (AskRead n g) e h p hs b
hinted w e g h (Some n) Fetch a p hs b = acted w (line_at w a) (AskRead n g) e h p hs b
hinted w e g h None k a p hs b = b

-- Load
loaded : (w : Config) (e : Kind) (a : Access) (l h : ℕ) (look : Look) (s t : Processor) → Buffer e h s t → Buffer e h s (loaded_from w a l look t)
loaded w e a l h (Hit v k) s t b = b
loaded w e a l h _ s t (Kept b r) = Kept b r
loaded w e a l h _ s t (Dropped x g n k v q b r) = Dropped x g n k v q b r
loaded w e a l h _ s t (Added x is mine number b r) = Added x is mine number b r

-- Store
pub number_is : (h number : ℕ) (need : Need) (a : Access) (word : WordAddr) (mask value old : ℕ) (ok : Bool) → need ≡ needed.Store word mask value → Some (unseen a) ≡ offered h number need old ok → a.number ≡ number
number_is h number need a word mask value old ok is made =
    let now : Some (unseen a) ≡ offered h number (needed.Store word mask value) old ok = made ∙ ap (λ z. offered h number z old ok) is in
    let same : unseen a ≡ unwrap_or (offered h number (needed.Store word mask value) old ok) (unseen a) = ap (λ z. unwrap_or z (unseen a)) now in
    ap (λ z. z.number) same

pub store_retires : (w : Config) (h k : HartState) (need : Need) (answer : ℕ) (word : WordAddr) (mask value : ℕ) → need ≡ needed.Store word mask value → Does w.image w.top h need answer k → k.retired ≡ h.retired + 1
store_retires w h k need answer word mask value is d = retires w.image w.top h k need answer d ∙ ap (λ z. retired_after z h.retired) is

-- Commit
drained : (w : Config) (g : HartId) (n v : ℕ) (k : LineId) (h : ℕ) (p : Part) (b : List Stored) → (p.harts g.0).buffer ≡ b → Buffer (kind.Commit g n k v) h (p.harts h) ((commit_row w g.0 k.0 b p).part.harts h)
drained w g n v k h p [] is = stays (kind.Commit g n k v) h (p.harts h)
drained w g n v k h p (x ∷ xs) is =
    let next = record (p.harts g.0) { buffer = xs } in
    acted w k.0 (Commit g.0 (written_in w x.word.0 x.mask x.value (content (p.cells k.0).copy))) (kind.Commit g n k v) h p (upd p.harts g.0 next) (changed (kind.Commit g n k v) g.0 h p next (Dropped x g n k v refl is (omega arith)))

-- Install
keeps : (w : Config) (e : Kind) (l h : ℕ) (slot : Slot) (b : Bool) (s : Processor) → Buffer e h s (kept w l slot b s)
keeps w e l h (Owns n t phase) false s = Kept refl (omega arith)
keeps w e l h (Owns n t phase) true s = stays e h s
keeps w e l h (Reads n t phase) b s = stays e h s
keeps w e l h NoSlot b s = stays e h s

-- Grant
granted : (w : Config) (e : Kind) (i h : ℕ) (q : List Waiter) (p : Part) → Buffer e h (p.harts h) ((grant_row w i q p).part.harts h)
granted w e i h [] p = stays e h (p.harts h)
granted w e i h (x ∷ xs) p = stays e h (p.harts h)

-- LockGrant, UnlockAck: a hart whose lock instruction was sent did it
answers : (w : Config) (e : Kind) (g h answer : ℕ) (p : Part) (d : HartEffect) (own asked : Bool) → own ≡ true → (p.harts g).asked ≡ asked → DoesIf (own && (p.harts g).asked) w g answer d p → Buffer e h (p.harts h) ((answered g asked d p).harts h)
answers w e g h answer p d own false mine is does = stays e h (p.harts h)
answers w e g h answer p d own true mine is does =
    let both : own && (p.harts g).asked ≡ true = grind (arith, nat_tests) in
    let done = subst (λ z. DoesIf z w g answer d p) both does in
    changed e g h p (record (p.harts g) { core = d.next; asked = false }) (Kept refl (no_less w (p.harts g).core d.next d.need answer done))

-- Take
taken_line : (w : Config) (c f : ℕ) (q : LineId) (m : Msg) (e : Kind) (h : ℕ) (p : Part) → Buffer e h (p.harts h) ((line_msg_row w c f q m p).part.harts h)
taken_line w c f q m e h p = lined w q.0 (take_row (first_prefetch w) (home_of w q.0) c f m (p.cells q.0) (p.homes q.0)) e h p p.harts (stays e h (p.harts h))

both_left : (a b : Bool) → a && b ≡ true → a ≡ true
both_left true b e = refl
both_left false b e = absurd (cc)

taken_msg : (w : Config) (c f : ℕ) (m : Msg) (e : Kind) (h : ℕ) (d : HartEffect) (p : Part) → applies w c m p ≡ true → TakeFits w c m d p → Buffer e h (p.harts h) ((msg_row w c f m d p).part.harts h)
taken_msg w c f (Read q) e h d p does fits = taken_line w c f q (Read q) e h p
taken_msg w c f (ReadEx q) e h d p does fits = taken_line w c f q (ReadEx q) e h p
taken_msg w c f (FwdRead q r) e h d p does fits = taken_line w c f q (FwdRead q r) e h p
taken_msg w c f (FwdReadEx q r) e h d p does fits = taken_line w c f q (FwdReadEx q r) e h p
taken_msg w c f (Inval q r) e h d p does fits = taken_line w c f q (Inval q r) e h p
taken_msg w c f (WriteBack q x) e h d p does fits = taken_line w c f q (WriteBack q x) e h p
taken_msg w c f (SharingBack q x r) e h d p does fits = taken_line w c f q (SharingBack q x r) e h p
taken_msg w c f (Transfer q r) e h d p does fits = taken_line w c f q (Transfer q r) e h p
taken_msg w c f (Data q x) e h d p does fits = taken_line w c f q (Data q x) e h p
taken_msg w c f (DataEx q x n) e h d p does fits = taken_line w c f q (DataEx q x n) e h p
taken_msg w c f (Ack q) e h d p does fits = taken_line w c f q (Ack q) e h p
taken_msg w c f (TransferAck q) e h d p does fits = taken_line w c f q (TransferAck q) e h p
taken_msg w c f (Nak q) e h d p does fits = taken_line w c f q (Nak q) e h p
taken_msg w c f (LockAsk g n word v) e h d p does fits = stays e h (p.harts h)
taken_msg w c f (Unlock g n word) e h d p does fits = stays e h (p.harts h)
taken_msg w c f (LockGrant g) e h d p does fits = answers w e g.0 h 0 p d (own_hart w c g) (p.harts g.0).asked (both_left (own_hart w c g) true does) refl fits
taken_msg w c f (UnlockAck g old) e h d p does fits = answers w e g.0 h old p d (own_hart w c g) (p.harts g.0).asked (both_left (own_hart w c g) true does) refl fits

taken_if : (w : Config) (c f : ℕ) (m : Msg) (e : Kind) (h : ℕ) (d : HartEffect) (p : Part) (b : Bool) → applies w c m p ≡ b → TakeFits w c m d p → Buffer e h (p.harts h) ((msg_row_if b w c f m d p).part.harts h)
taken_if w c f m e h d p true does fits = taken_msg w c f m e h d p does fits
taken_if w c f m e h d p false does fits = stays e h (p.harts h)

-- what becomes of a hart's buffer at each event
pub buffer_is : (w : Config) (c : ℕ) (e : Kind) (d : HartEffect) (p : Part) (h : ℕ) → Guard w c e d p → Buffer e h (p.harts h) ((row w c e d p).part.harts h)
unfolding row Guard
buffer_is w c (kind.Alu g pc) d p h can = did w (kind.Alu g pc) g.0 h 0 p d can.retires.does
buffer_is w c (kind.Fence g pc) d p h can = did w (kind.Fence g pc) g.0 h 0 p d can.next.retires.does
buffer_is w c (kind.Hint g pc slot) d p h can = subst (λ z. Buffer (kind.Hint g pc slot) h (p.harts h) ((hint_row w g.0 slot z (retire g.0 d p)).part.harts h)) (sym can.next.retires.need_is) (hinted w (kind.Hint g pc slot) g.0 h slot can.kinds can.address p (retire g.0 d p).harts (did w (kind.Hint g pc slot) g.0 h 0 p d can.next.retires.does))
buffer_is w c (kind.Put g pc byte) d p h can = did w (kind.Put g pc byte) g.0 h 0 p d can.retires.does
buffer_is w c (kind.Stop g pc end) d p h can = did w (kind.Stop g pc end) g.0 h 0 p d can.retires.does
buffer_is w c (kind.Load a level) d p h can =
    let next = record (p.harts a.hart.0) { core = d.next } in
    let look = look_by (newest_of a.word.0 (p.harts a.hart.0).buffer) a.mask in
    changed (kind.Load a level) a.hart.0 h p (loaded_from w a (line_at w a.word.0) look next) (loaded w (kind.Load a level) a (line_at w a.word.0) a.hart.0 look (p.harts a.hart.0) next (Kept refl (no_less w (p.harts a.hart.0).core d.next d.need (reply a.read a.written) can.next.does)))
buffer_is w c (kind.Store a) d p h can =
    let next = record (p.harts a.hart.0) { core = d.next; buffer = (p.harts a.hart.0).buffer ++ entry_of a ∷ [] } in
    changed (kind.Store a) a.hart.0 h p next (Added a refl refl (number_is a.hart.0 (number_of a.hart.0 p) d.need a a.word a.mask can.value 0 false can.next.need_is can.access.made) refl (store_retires w (p.harts a.hart.0).core d.next d.need (reply a.read a.written) a.word a.mask can.value can.next.need_is can.next.does))
buffer_is w c (kind.Commit g n k v) d p h can = drained w g n v k h p (p.harts g.0).buffer refl
buffer_is w c (kind.Rmw a k v) d p h can =
    let next = record (p.harts a.hart.0) { core = d.next; reserved = rmw_reserved a.op (p.harts a.hart.0).reserved } in
    acted w k.0 (Commit a.hart.0 (written_in w a.word.0 a.mask (unwrap_or a.written 0) (content (p.cells k.0).copy))) (kind.Rmw a k v) h p (upd p.harts a.hart.0 next) (changed (kind.Rmw a k v) a.hart.0 h p next (Kept refl (no_less w (p.harts a.hart.0).core d.next d.need (reply a.read a.written) can.next.does)))
buffer_is w c (kind.ScFail a) d p h can = changed (kind.ScFail a) a.hart.0 h p (record (p.harts a.hart.0) { core = d.next; reserved = None }) (Kept refl (no_less w (p.harts a.hart.0).core d.next d.need (reply a.read a.written) can.next.does))
buffer_is w c (kind.LockSend g m) d p h can = changed (kind.LockSend g m) g.0 h p (record (p.harts g.0) { asked = true }) (Kept refl (omega arith))
buffer_is w c (kind.BusRead g k) d p h can = acted w k.0 (BusRead g.0) (kind.BusRead g k) h p p.harts (stays (kind.BusRead g k) h (p.harts h))
buffer_is w c (kind.BusOwn g k) d p h can = acted w k.0 (BusOwn g.0) (kind.BusOwn g k) h p p.harts (stays (kind.BusOwn g k) h (p.harts h))
buffer_is w c (kind.Evict g k) d p h can = acted w k.0 (evict_act g.0 (p.cells k.0).copy) (kind.Evict g k) h p p.harts (stays (kind.Evict g k) h (p.harts h))
buffer_is w c (kind.Ask slot g k own) d p h can = acted w k.0 (ask_act own slot g.0) (kind.Ask slot g k own) h p p.harts (stays (kind.Ask slot g k own) h (p.harts h))
buffer_is w c (kind.Again slot k) d p h can = acted w k.0 Again (kind.Again slot k) h p p.harts (stays (kind.Again slot k) h (p.harts h))
buffer_is w c (kind.Install slot g k) d p h can =
    let next = kept w k.0 (p.cells k.0).slot (held_by g.0 (p.cells k.0).copy) (p.harts g.0) in
    acted w k.0 Install (kind.Install slot g k) h p (upd p.harts g.0 next) (changed (kind.Install slot g k) g.0 h p next (keeps w (kind.Install slot g k) k.0 g.0 (p.cells k.0).slot (held_by g.0 (p.cells k.0).copy) (p.harts g.0)))
buffer_is w c (kind.Grant a) d p h can = granted w (kind.Grant a) (lock_at w a.word.0) h (p.locks (lock_at w a.word.0)).queue p
buffer_is w c (kind.Free f a) d p h can = stays (kind.Free f a) h (p.harts h)
buffer_is w c (kind.Take f m) d p h can = taken_if w c f.0 m (kind.Take f m) h d p (applies w c m p) refl can

-- a buffer that stays, at an event that is neither a store nor a commit
pub kept_else : (e : Kind) (h : ℕ) (s t : Processor) → Buffer e h s t → ((a : Access) → e ≢ kind.Store a) → ((g : HartId) (n : ℕ) (k : LineId) (v : ℕ) → e ≢ kind.Commit g n k v) → t.buffer ≡ s.buffer
kept_else e h s t (Kept b r) store commit = b
kept_else e h s t (Dropped x g n k v q b r) store commit = absurd (commit g n k v q)
kept_else e h s t (Added a is mine number b r) store commit = absurd (store a is)
