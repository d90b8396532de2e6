-- The slots of a cluster as contracts see them, by their numbers.
use Rattle.std.specs.Prelude.{◌≡◌, ℕ, ◌+◌, ◌≤◌, ◌==◌, Bool, true, false, not, nat_lt, List, length, Option, Some, None, is_some, replicate, slice_index_or, slice_set}
use Rattle.std.specs.List.{position}
use Rattle.dash_base.specs.Places as places
use Rattle.remote_cache.specs.declared.slot.Slot.{Slot}

-- the harts of the cluster, and what each slot has, if it is not empty
pub record SlotsView : Type 0 where
  pub harts : ℕ
  pub slots : List (Option Slot)

-- how many slots there are
abbrev pub count : SlotsView → ℕ
count v = length v.slots

-- the first slots are the front slots, one for each hart; then the store slots, one for each hart; then prefetch slots
abbrev pub first_prefetch : SlotsView → ℕ
first_prefetch v = places.first_prefetch v.harts

-- whether a slot is for prefetches
abbrev pub is_prefetch : SlotsView → ℕ → Bool
is_prefetch v n = not (nat_lt n (first_prefetch v))

-- what the slot of a number has
abbrev pub slot_at : SlotsView → ℕ → Option Slot
slot_at v n = slice_index_or v.slots n None

-- the same slots but for one
abbrev pub with_slot : SlotsView → ℕ → Option Slot → SlotsView
with_slot v n slot = record v { slots = slice_set v.slots n slot }

-- so many slots, all empty
abbrev pub empty_slots : ℕ → ℕ → SlotsView
empty_slots harts count = record { harts = harts; slots = replicate count None }

-- whether a slot has a line
abbrev pub is_of : ℕ → Option Slot → Bool
is_of line None = false
is_of line (Some s) = s.line.0 == line

-- the number of the first slot that has a line
abbrev pub slot_of : SlotsView → ℕ → Option ℕ
slot_of v line = position (is_of line) v.slots

-- at most one slot has a line
pub record IsOnePerLine (slots : List (Option Slot)) : Type 0 where
  pub one : (line i j : ℕ) → is_of line (slice_index_or slots i None) ≡ true → is_of line (slice_index_or slots j None) ≡ true → i ≡ j

-- all slots from number n on are empty, and the one before is not
pub record IsUsed (slots : List (Option Slot)) (n : ℕ) : Type 0 where
  pub rest : (m : ℕ) → n ≤ m → slice_index_or slots m None ≡ None
  pub last : (m : ℕ) → n ≡ m + 1 → is_some (slice_index_or slots m None) ≡ true
