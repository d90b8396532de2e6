-- The slots after each call.
use Rattle.std.specs.Prelude.{ℕ, Bool, true, false, List, Option, Some, None, slice_set}
use Rattle.dash_base.specs.declared.line.Line.{Line}
use Rattle.dash_base.specs.declared.id.LineId.{LineId}
use Rattle.dash_msg.specs.declared.msg.Msg.{Msg}
use Rattle.remote_cache.specs.declared.slot.Phase.{Phase}
use Rattle.remote_cache.specs.declared.slot.Phase.TheVariants.{Asked, Refused, Came}
use Rattle.remote_cache.specs.declared.slot.Slot.{Slot}
use Rattle.remote_cache.specs.declared.change.Change.{Change}
use Rattle.remote_cache.specs.declared.change.Change.TheVariants.{Stays, Becomes, Closes}
use Rattle.remote_cache.specs.Rows.{on_reply, on_inval, reply_line}
use Rattle.remote_cache.specs.View.{SlotsView, slot_at, slot_of, is_prefetch}

-- a request for a line that has just been sent
abbrev pub issued : ℕ → LineId → Bool → Slot
issued hart line own = record { hart = hart; line = line; own = own; phase = Asked }

-- the copy that a slot waits with, if it came
abbrev pub came_in : Phase → Option Line
came_in (Came copy) = Some copy
came_in _ = None

-- the same of a slot that may be empty
abbrev pub arrived_in : Option Slot → Option Line
arrived_in None = None
arrived_in (Some s) = came_in s.phase

-- whether this is the phase of a request that is to be sent again
abbrev pub is_refused_phase : Phase → Bool
is_refused_phase Refused = true
is_refused_phase _ = false

-- whether a slot, which may be empty, is refused
abbrev pub is_refused : Option Slot → Bool
is_refused None = false
is_refused (Some s) = is_refused_phase s.phase

-- the same request, which has just been sent again
abbrev pub asked_again : Option Slot → Option Slot
asked_again None = None
asked_again (Some s) = Some (record s { phase = Asked })

-- what a row makes of a slot, which may be empty
abbrev pub change_in : (Slot → Change) → Option Slot → Change
change_in row None = Stays
change_in row (Some s) = row s

-- the slots once one has changed
abbrev pub changed_in : List (Option Slot) → ℕ → Change → List (Option Slot)
changed_in slots n Stays = slots
changed_in slots n (Becomes s) = slice_set slots n (Some s)
changed_in slots n Closes = slice_set slots n None

-- the number of a slot, where it changes
abbrev pub number_met : ℕ → Change → Option ℕ
number_met n Stays = None
number_met n _ = Some n

-- the slots once a row has met the slot of a line
abbrev pub after_row : SlotsView → (Bool → Slot → Change) → Option ℕ → SlotsView
after_row v row None = v
after_row v row (Some n) = record v { slots = changed_in v.slots n (change_in (row (is_prefetch v n)) (slot_at v n)) }

-- the slot that a row meets
abbrev pub met_by : SlotsView → (Bool → Slot → Change) → Option ℕ → Option ℕ
met_by v row None = None
met_by v row (Some n) = number_met n (change_in (row (is_prefetch v n)) (slot_at v n))

-- the slot of a line, where there is a line
abbrev pub slot_of_reply : SlotsView → Option LineId → Option ℕ
slot_of_reply v None = None
slot_of_reply v (Some line) = slot_of v line.0

-- the slot that a reply meets
abbrev pub reply_met : SlotsView → Msg → Option ℕ
reply_met v msg = met_by v (λ prefetch s. on_reply prefetch msg s) (slot_of_reply v (reply_line msg))

-- the slots after a reply
abbrev pub after_reply : SlotsView → Msg → SlotsView
after_reply v msg = after_row v (λ prefetch s. on_reply prefetch msg s) (slot_of_reply v (reply_line msg))

-- the slots after an invalidation of a line
abbrev pub after_inval : SlotsView → ℕ → SlotsView
after_inval v line = after_row v (λ prefetch s. on_inval prefetch s s.own s.phase) (slot_of v line)
