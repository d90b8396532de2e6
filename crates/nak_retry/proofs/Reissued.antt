-- The slots once a refused one has asked again: it waits, for the same line, and no other slot changes.
use Rattle.std.proofs.Common.{◌≡◌, ◌≢◌, ℕ, ◌<◌, false, Option, None, Some, refl}
use Rattle.remote_cache.specs.declared.slot.Slot.{Slot}
use Rattle.remote_cache.specs.View.{SlotsView, count, slot_at, slot_of, with_slot, is_of}
use Rattle.remote_cache.specs.Steps.{is_refused, asked_again}
use Rattle.remote_cache.proofs.LawsOffered.{set_slots_stand}

-- the same slots, but that of this number asks again
abbrev pub reissued : SlotsView → ℕ → SlotsView
reissued v id = with_slot v id (asked_again (slot_at v id))

pub slot_at-reissued : (v : SlotsView) (id : ℕ) → id < count v → slot_at (reissued v id) id ≡ asked_again (slot_at v id)
slot_at-reissued v id low = set_slots_stand.here v id (asked_again (slot_at v id)) low

pub slot_at-reissued_other : (v : SlotsView) (id other : ℕ) → other ≢ id → slot_at (reissued v id) other ≡ slot_at v other
slot_at-reissued_other v id other apart = set_slots_stand.others v id other (asked_again (slot_at v id)) apart

same_line : (line : ℕ) (s : Option Slot) → is_of line (asked_again s) ≡ is_of line s
same_line line None = refl
same_line line (Some s) = refl

pub slot_of-reissued : (v : SlotsView) (id line : ℕ) → slot_of (reissued v id) line ≡ slot_of v line
slot_of-reissued v id line = set_slots_stand.lines v id line (asked_again (slot_at v id)) (same_line line (slot_at v id))

pub is_refused-asked_again : (s : Option Slot) → is_refused (asked_again s) ≡ false
is_refused-asked_again None = refl
is_refused-asked_again (Some s) = refl
