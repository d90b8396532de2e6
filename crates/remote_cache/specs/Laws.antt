-- What the laws of slots say: a line has one slot, and a message changes that one alone.
use Rattle.std.specs.Prelude.{◌≡◌, ◌≢◌, ◌<◌, ℕ, true, false, Option, Some, None}
use Rattle.dash_msg.specs.declared.msg.Msg.{Msg}
use Rattle.remote_cache.specs.declared.slot.Slot.{Slot}
use Rattle.remote_cache.specs.Rows.{reply_line}
use Rattle.remote_cache.specs.View.{SlotsView, count, slot_at, slot_of, with_slot, is_of, IsOnePerLine}
use Rattle.remote_cache.specs.Steps.{slot_of_reply, after_reply, after_inval}

-- which slot has a line
pub record LinesHaveOneSlot : Type 0 where
  pub found : (v : SlotsView) (line n : ℕ) → IsOnePerLine v.slots → is_of line (slot_at v n) ≡ true → slot_of v line ≡ Some n
  pub in_range : (v : SlotsView) (line n : ℕ) → slot_of v line ≡ Some n → n < count v
  pub has_line : (v : SlotsView) (line n : ℕ) → slot_of v line ≡ Some n → is_of line (slot_at v n) ≡ true
  pub none : (v : SlotsView) (line n : ℕ) → slot_of v line ≡ None → is_of line (slot_at v n) ≡ false

-- a slot that is set, and every other one
pub record SetSlotsStand : Type 0 where
  pub here : (v : SlotsView) (n : ℕ) (slot : Option Slot) → n < count v → slot_at (with_slot v n slot) n ≡ slot
  pub others : (v : SlotsView) (n m : ℕ) (slot : Option Slot) → m ≢ n → slot_at (with_slot v n slot) m ≡ slot_at v m
  pub lines : (v : SlotsView) (n line : ℕ) (slot : Option Slot) → is_of line slot ≡ is_of line (slot_at v n) → slot_of (with_slot v n slot) line ≡ slot_of v line

-- a reply or an invalidation changes no slot but that of its line
pub record MessagesChangeOneSlot : Type 0 where
  pub reply : (v : SlotsView) (msg : Msg) (m : ℕ) → slot_of_reply v (reply_line msg) ≢ Some m → slot_at (after_reply v msg) m ≡ slot_at v m
  pub inval : (v : SlotsView) (line m : ℕ) → slot_of v line ≢ Some m → slot_at (after_inval v line) m ≡ slot_at v m
