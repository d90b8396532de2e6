-- Lines in the way of those that a hart wants, by their numbers.
use Rattle.std.specs.Prelude.{◌≡◌, ℕ, ◌<◌, ◌==◌, cond, Option, None, Some, List, length, slice_index_or}
use Rattle.dash_base.specs.declared.id.LineId.{LineId}
use Rattle.remote_cache.specs.View.{SlotsView, slot_at}
use Rattle.remote_cache.specs.declared.slot.Phase.{Phase}
use Rattle.remote_cache.specs.declared.slot.Phase.TheVariants.{Came}
use Rattle.remote_cache.specs.declared.slot.Slot.{Slot as Request}
use Rattle.snoop_bus.specs.View.{BusView, IsHartOther}
use Rattle.dash_model.specs.Config.{Config}
use Rattle.dash_model.specs.Part.{Part}
use Rattle.unit_rows.specs.declared.choice.Choice.TheVariants.{Evict}
use Rattle.unit_rows.specs.Shown.{PartsView, Shows}
use Rattle.unit_rows.specs.Rows.{Enabled}

-- each number is greater than those before it
abbrev pub IsRising : List ℕ → Type 0
IsRising xs = (i j : ℕ) → i < j → j < length xs → slice_index_or xs i 0 < slice_index_or xs j 0

-- a number is among the first n
pub record IsAmong (xs : List ℕ) (n x : ℕ) : Type 0 where
  pub place : ℕ
  pub low : place < n
  pub is : slice_index_or xs place 0 ≡ x

abbrev pub IsIn : List ℕ → ℕ → Type 0
IsIn xs x = IsAmong xs (length xs) x

abbrev pub Keeps : List ℕ → List ℕ → Type 0
Keeps old new = (x : ℕ) → IsIn old x → IsIn new x

-- the line that came to a slot, for hart k
abbrev pub came_by : Phase → LineId → Option LineId
came_by (Came copy) l = Some l
came_by phase l = None

abbrev pub came_line : ℕ → Option Request → Option LineId
came_line k None = None
came_line k (Some s) = cond (s.hart == k) (came_by s.phase s.line) None

-- the line that hart k holds in the way of one that was found is there
abbrev pub HasVictimOf : BusView → ℕ → Option LineId → List ℕ → Type 0
HasVictimOf b k None xs = Unit {0}
HasVictimOf b k (Some m) xs = (l : ℕ) → IsHartOther b k m.0 l → IsIn xs l

-- and so for the first n slots
abbrev pub HasCame : BusView → SlotsView → ℕ → ℕ → List ℕ → Type 0
HasCame b v k n xs = (i : ℕ) → i < n → HasVictimOf b k (came_line k (slot_at v i)) xs

-- each line that hart k may give up is there
abbrev pub HasVictims : Config → ℕ → PartsView → ℕ → List ℕ → Type 0
HasVictims w c v k xs = (l : LineId) (p : Part) → Shows w c v p → Enabled w c (Evict k l) p → IsIn xs l.0
