-- What local runs keep of harts: at each step, whatever a lane brought, a hart whose lock instruction was sent goes on to have it as its next one, and stores that wait are to words of memory.
use Rattle.std.proofs.Common.{◌≡◌, ℕ, ◌==◌, ◌&&◌, Bool, true, false, not, cond, List, [], ◌∷◌, ◌++◌, sym, subst}
use Rattle.dash_base.specs.declared.id.LineId.{LineId}
use Rattle.dash_msg.specs.declared.msg.Msg.{Msg}
use Rattle.dash_msg.specs.declared.msg.Msg.TheVariants.{Read, ReadEx, FwdRead, FwdReadEx, Inval, WriteBack, SharingBack, Transfer, Data, DataEx, Ack, TransferAck, Nak, LockAsk, Unlock, LockGrant, UnlockAck}
use Rattle.dash_event.specs.declared.access.Access.{Access}
use Rattle.dash_event.specs.declared.event.Kind.{Kind}
use Rattle.dash_event.specs.declared.event.Kind.TheVariants as kind
use Rattle.write_buffer.specs.declared.entry.Entry.{Entry as Stored}
use Rattle.hart_core.specs.Access.{IsInMemory}
use Rattle.dash_model.specs.Config.{Config, home_of, first_prefetch}
use Rattle.dash_model.specs.Part.{Processor, Part, opening_part}
use Rattle.dash_model.specs.LineRows.{take_row}
use Rattle.dash_model.specs.LineEffect.{LineEffect}
use Rattle.dash_model.specs.Words.{held_by}
use Rattle.dash_model.specs.HartRows.{HartEffect, cleared, entry_of}
use Rattle.dash_model.specs.Guard.{Guard}
use Rattle.dash_model.specs.LockRows.{answered}
use Rattle.dash_model.specs.Ranges.{applies}
use Rattle.dash_model.specs.Row.{row, line_msg_row, msg_row, msg_row_if}
use Rattle.dash_model.specs.Machine.{Step, part_after}
use Rattle.dash_model.specs.LocalRun.{IsLocalRun, part_at}
use Rattle.dash_model.specs.LocalHarts.{AreOfMemory, IsReady, LocalRunsKeepHarts}
use Rattle.dash_model.proofs.Asking.{AsksFirst, asks_first}
use Rattle.dash_model.proofs.Buffers.{Buffer, Kept, Dropped, Added, buffer_is}
use Rattle.dash_model.proofs.HartSteps.{hart_step}
use Rattle.dash_model.proofs.Stores.{store_writes}

-- clearing what a hart held leaves both
cleared_asks : (w : Config) (l : ℕ) (s : Processor) (b : Bool) → AsksFirst w s → AsksFirst w (cond b (cleared w l s) s)
cleared_asks w l s true k = k
cleared_asks w l s false k = k

-- a message of a line
line_asks : (w : Config) (c f : ℕ) (q : LineId) (m : Msg) (h : ℕ) (p : Part) → AsksFirst w (p.harts h) → AsksFirst w ((line_msg_row w c f q m p).part.harts h)
line_asks w c f q m h p k =
    let d : LineEffect = take_row (first_prefetch w) (home_of w q.0) c f m (p.cells q.0) (p.homes q.0) in
    cleared_asks w q.0 (p.harts h) (held_by h (p.cells q.0).copy && not (held_by h d.cell.copy)) k

-- an answer: the hart has none then whose instruction was sent
either : (w : Config) (s t : Processor) (b : Bool) → AsksFirst w t → AsksFirst w s → AsksFirst w (cond b t s)
either w s t true a k = a
either w s t false a k = k

answer_asks : (w : Config) (g h : ℕ) (asked : Bool) (d : HartEffect) (p : Part) → AsksFirst w (p.harts h) → AsksFirst w ((answered g asked d p).harts h)
answer_asks w g h true d p k = either w (p.harts h) (record (p.harts g) { core = d.next; asked = false }) (h == g) (λ sent. absurd (cc)) k
answer_asks w g h false d p k = k

msg_asks : (w : Config) (c f : ℕ) (m : Msg) (h : ℕ) (d : HartEffect) (p : Part) → AsksFirst w (p.harts h) → AsksFirst w ((msg_row w c f m d p).part.harts h)
msg_asks w c f (Read q) h d p k = line_asks w c f q (Read q) h p k
msg_asks w c f (ReadEx q) h d p k = line_asks w c f q (ReadEx q) h p k
msg_asks w c f (FwdRead q r) h d p k = line_asks w c f q (FwdRead q r) h p k
msg_asks w c f (FwdReadEx q r) h d p k = line_asks w c f q (FwdReadEx q r) h p k
msg_asks w c f (Inval q r) h d p k = line_asks w c f q (Inval q r) h p k
msg_asks w c f (WriteBack q x) h d p k = line_asks w c f q (WriteBack q x) h p k
msg_asks w c f (SharingBack q x r) h d p k = line_asks w c f q (SharingBack q x r) h p k
msg_asks w c f (Transfer q r) h d p k = line_asks w c f q (Transfer q r) h p k
msg_asks w c f (Data q x) h d p k = line_asks w c f q (Data q x) h p k
msg_asks w c f (DataEx q x n) h d p k = line_asks w c f q (DataEx q x n) h p k
msg_asks w c f (Ack q) h d p k = line_asks w c f q (Ack q) h p k
msg_asks w c f (TransferAck q) h d p k = line_asks w c f q (TransferAck q) h p k
msg_asks w c f (Nak q) h d p k = line_asks w c f q (Nak q) h p k
msg_asks w c f (LockAsk t n word v) h d p k = k
msg_asks w c f (Unlock t n word) h d p k = k
msg_asks w c f (LockGrant t) h d p k = answer_asks w t.0 h (p.harts t.0).asked d p k
msg_asks w c f (UnlockAck t old) h d p k = answer_asks w t.0 h (p.harts t.0).asked d p k

-- a message that finds no case changes nothing
taken_asks : (w : Config) (c f : ℕ) (m : Msg) (h : ℕ) (d : HartEffect) (p : Part) (b : Bool) → AsksFirst w (p.harts h) → AsksFirst w ((msg_row_if b w c f m d p).part.harts h)
taken_asks w c f m h d p true k = msg_asks w c f m h d p k
taken_asks w c f m h d p false k = k

-- each event
event_asks : (w : Config) (c : ℕ) (e : Kind) (d : HartEffect) (p : Part) (h : ℕ) → Guard w c e d p → AsksFirst w (p.harts h) → AsksFirst w ((row w c e d p).part.harts h)
unfolding row Guard
event_asks w c (kind.Take f m) d p h can k = taken_asks w c f.0 m h d p (applies w c m p) k
event_asks w c (kind.Free f a) d p h can k = k
event_asks w c e d p h can k = asks_first w e h (p.harts h) ((row w c e d p).part.harts h) (hart_step w c e d p h can tt) k

-- buffers
one_more : (w : Config) (ss : List Stored) (s : Stored) → AreOfMemory w ss → IsInMemory w.top s.word.0 4 → AreOfMemory w (ss ++ s ∷ [])
one_more w [] s k one = (one, tt)
one_more w (x ∷ xs) s k one = (k.0, one_more w xs s k.1 one)

waiting_by : (w : Config) (e : Kind) (h : ℕ) (s t : Processor) → Buffer e h s t → ((a : Access) → e ≡ kind.Store a → IsInMemory w.top a.word.0 4) → AreOfMemory w s.buffer → AreOfMemory w t.buffer
waiting_by w e h s t (Kept b r) inside k = subst (AreOfMemory w) (sym b) k
waiting_by w e h s t (Dropped x g n z v q b r) inside k = (subst (AreOfMemory w) b k).1
waiting_by w e h s t (Added a is mine number b r) inside k = subst (AreOfMemory w) (sym b) (one_more w s.buffer (entry_of a) k (inside a is))

pub event_ready : (w : Config) (c : ℕ) (e : Kind) (d : HartEffect) (p : Part) (h : ℕ) → Guard w c e d p → IsReady w (p.harts h) → IsReady w ((row w c e d p).part.harts h)
event_ready w c e d p h can k = record {
  next = event_asks w c e d p h can k.next;
  waiting = waiting_by w e h (p.harts h) ((row w c e d p).part.harts h) (buffer_is w c e d p h can) (λ a is. (store_writes w c a d p (subst (λ z. Guard w c z d p) is can)).inside) k.waiting;
}

-- along a local run
kept_along : (w : Config) (c : ℕ) (p : Part) (gs : List Step) → IsLocalRun w c p gs → ((h : ℕ) → IsReady w (p.harts h)) → (h : ℕ) → IsReady w ((part_at w c p gs).harts h)
kept_along w c p [] r k h = k h
kept_along w c p (g ∷ gs) r k h = kept_along w c (part_after w c g p) gs r.1 (λ i. event_ready w c g.event.kind g.done p i r.0.guard (k i)) h

pub opening_ready : (w : Config) (h : ℕ) → IsReady w ((opening_part w).harts h)
opening_ready w h = record { next = λ sent. absurd (cc); waiting = tt }

pub local_runs_keep_harts : LocalRunsKeepHarts
local_runs_keep_harts w c gs h r = kept_along w c (opening_part w) gs r (opening_ready w) h
