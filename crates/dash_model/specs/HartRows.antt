-- The rows' effects on harts and lines: a function of one cluster's part, and what it sends.
use Rattle.std.specs.Prelude.{ℕ, ◌%◌, ◌==◌, ◌&&◌, Bool, true, false, cond, not, Option, None, Some, List, [], ◌∷◌, ◌++◌, unwrap_or}
use Rattle.dash_msg.specs.declared.msg.Msg.{Msg}
use Rattle.dash_msg.specs.declared.msg.Msg.TheVariants.{LockAsk, Unlock}
use Rattle.dash_msg.specs.declared.parcel.Sent.{Sent}
use Rattle.dash_event.specs.declared.access.Access.{Access}
use Rattle.dash_event.specs.declared.access.Op.{Op}
use Rattle.dash_event.specs.declared.access.Op.TheVariants as op
use Rattle.dash_base.specs.declared.need.HintKind.TheVariants.{Exclusive}
use Rattle.write_buffer.specs.Look.{newest_of, look_by}
use Rattle.write_buffer.specs.declared.entry.Entry.{Entry as Stored}
use Rattle.write_buffer.specs.declared.entry.Look.{Look}
use Rattle.write_buffer.specs.declared.entry.Look.TheVariants.{Hit}
use Rattle.hart_core.specs.HartState.{HartState}
use Rattle.dash_base.specs.declared.need.Need.{Need}
use Rattle.dash_base.specs.declared.need.Need.TheVariants as needed
use Rattle.dash_model.specs.Maps.{upd}
use Rattle.dash_model.specs.Config.{Config, line_id, home_of, line_at, lock_at, lock_home}
use Rattle.dash_model.specs.Net.{to}
use Rattle.dash_model.specs.Cell.{Copy, Slot, Owns}
use Rattle.dash_model.specs.Part.{Processor, Part}
use Rattle.dash_model.specs.LineEffect.{LineEffect, is_owner}
use Rattle.dash_model.specs.Acts.{Act, AskRead, AskOwn, Install, Commit, Evict, Drop, act_row}
use Rattle.dash_model.specs.Words.{held_by, content, written_in}

-- a cluster's part afterwards, and what it sends
pub record PartEffect : Type 0 where
  pub part : Part
  pub sent : List Sent

-- nothing is sent
abbrev pub quiet : Part → PartEffect
quiet p = record { part = p; sent = [] }

-- what the hart of an event needed for its instruction, and what became of it; an event that does no instruction has no use for it
pub record HartEffect : Type 0 where
  pub need : Need
  pub next : HartState

-- a reservation, unless it is of a word in the line
abbrev pub unreserved : Config → ℕ → Option ℕ → Option ℕ
unreserved w l None = None
unreserved w l (Some a) = cond (line_at w a == l) None (Some a)

-- whether a line stands at its index of an L1
abbrev pub is_line : ℕ → Option ℕ → Bool
is_line l None = false
is_line l (Some k) = k == l

-- an L1 without a line
abbrev pub l1_without : Config → ℕ → (ℕ → Option ℕ) → ℕ → Option ℕ
l1_without w l l1 = cond (is_line l (l1 (l % w.top.l1))) (upd l1 (l % w.top.l1) None) l1

-- a hart whose copy of a line was cleared
abbrev pub cleared : Config → ℕ → Processor → Processor
cleared w l s = record s { reserved = unreserved w l s.reserved; l1 = l1_without w l s.l1 }

-- a hart is cleared where it held the line and does so no more
abbrev pub cleared_where_lost : Config → ℕ → Copy → Copy → ℕ → Processor → Processor
cleared_where_lost w l before next h s = cond (held_by h before && not (held_by h next)) (cleared w l s) s

-- a row of line l at its cluster
abbrev pub on_line : Config → ℕ → LineEffect → Part → PartEffect
on_line w l d p = record { part = record p { cells = upd p.cells l d.cell; homes = upd p.homes l d.home; harts = λ h. cleared_where_lost w l (p.cells l).copy d.cell.copy h (p.harts h) }; sent = d.sent }

-- an act of a cluster on line l
abbrev pub acts : Config → ℕ → Act → Part → PartEffect
acts w l a p = on_line w l (act_row (line_id l) (home_of w l) a (p.cells l) (p.homes l)) p

-- hart h becomes this
abbrev pub change : ℕ → Processor → Part → Part
change h s p = record p { harts = upd p.harts h s }

-- hart h did its instruction
abbrev pub retire : ℕ → HartEffect → Part → Part
retire h d p = change h (record (p.harts h) { core = d.next }) p

-- Hint: the slot that it opens asks
abbrev pub hint_row : Config → ℕ → Option ℕ → Need → Part → PartEffect
hint_row w h (Some n) (needed.Hint Exclusive address) p = acts w (line_at w address) (AskOwn n h) p
hint_row w h (Some n) (needed.Hint kind address) p = acts w (line_at w address) (AskRead n h) p
hint_row w h slot need p = quiet p

-- a hart's reservation after a load: LR reserves the word
abbrev pub reserving : Op → ℕ → Option ℕ → Option ℕ
reserving op.Reserve a r = Some a
reserving kind a r = r

-- what a load leaves of its hart: one from the buffer nothing else; one from the cluster's copy has the line enter L1
abbrev pub loaded_from : Config → Access → ℕ → Look → Processor → Processor
loaded_from w a l (Hit v k) s = s
loaded_from w a l look s = record s { l1 = upd s.l1 (l % w.top.l1) (Some l); reserved = reserving a.op a.word.0 s.reserved }

-- Load: from the buffer; or from the cluster's copy, whose line enters L1, and LR reserves the word
abbrev pub load_row : Config → Access → HartEffect → Part → PartEffect
load_row w a d p =
    quiet (change a.hart.0 (loaded_from w a (line_at w a.word.0) (look_by (newest_of a.word.0 (p.harts a.hart.0).buffer) a.mask) (record (p.harts a.hart.0) { core = d.next })) p)

-- a store as an entry of the buffer
abbrev pub entry_of : Access → Stored
entry_of a = record { number = a.number; word = a.word; mask = a.mask; value = unwrap_or a.written 0 }

-- Store: it waits behind the others
abbrev pub store_row : Access → HartEffect → Part → PartEffect
store_row a d p = quiet (change a.hart.0 (record (p.harts a.hart.0) { core = d.next; buffer = (p.harts a.hart.0).buffer ++ entry_of a ∷ [] }) p)

-- Commit: the oldest store leaves the buffer, and becomes the line's next version
abbrev pub commit_row : Config → ℕ → ℕ → List Stored → Part → PartEffect
commit_row w h l [] p = quiet p
commit_row w h l (e ∷ es) p =
    acts w l (Commit h (written_in w e.word.0 e.mask e.value (content (p.cells l).copy))) (change h (record (p.harts h) { buffer = es }) p)

-- a hart's reservation after an atomic operation that writes: an SC clears it
abbrev pub rmw_reserved : Op → Option ℕ → Option ℕ
rmw_reserved op.Cond r = None
rmw_reserved kind r = r

-- Rmw: what it writes becomes the line's next version, and an SC clears the reservation
abbrev pub rmw_row : Config → Access → ℕ → HartEffect → Part → PartEffect
rmw_row w a l d p =
    acts w l (Commit a.hart.0 (written_in w a.word.0 a.mask (unwrap_or a.written 0) (content (p.cells l).copy))) (change a.hart.0 (record (p.harts a.hart.0) { core = d.next; reserved = rmw_reserved a.op (p.harts a.hart.0).reserved }) p)

-- ScFail: the reservation is cleared
abbrev pub sc_fail_row : Access → HartEffect → Part → PartEffect
sc_fail_row a d p = quiet (change a.hart.0 (record (p.harts a.hart.0) { core = d.next; reserved = None }) p)

-- the home of a lock message's word
abbrev pub lock_target : Config → Msg → ℕ
lock_target w (LockAsk h n word v) = lock_home w (lock_at w word.0)
lock_target w (Unlock h n word) = lock_home w (lock_at w word.0)
lock_target w m = 0

-- LockSend: the message goes to the home of its word
abbrev pub lock_send_row : Config → ℕ → Msg → Part → PartEffect
lock_send_row w h m p = record { part = change h (record (p.harts h) { asked = true }) p; sent = to (lock_target w m) m ∷ [] }

-- Evict, by the owner or by another holder
abbrev pub evict_act : ℕ → Copy → Act
evict_act h copy = cond (is_owner h copy) (Evict h) (Drop h)

-- Ask, to own or to read
abbrev pub ask_act : Bool → ℕ → ℕ → Act
ask_act true n h = AskOwn n h
ask_act false n h = AskRead n h

-- what an installed line leaves of its hart's reservation: of a line to own, a hart that was no holder keeps none in it
abbrev pub kept : Config → ℕ → Slot → Bool → Processor → Processor
kept w l (Owns n t phase) false s = record s { reserved = unreserved w l s.reserved }
kept w l slot holder s = s

-- Install: the slot closes, and its hart is the only holder
abbrev pub install : Config → ℕ → ℕ → Part → PartEffect
install w h l p = acts w l Install (change h (kept w l (p.cells l).slot (held_by h (p.cells l).copy) (p.harts h)) p)
