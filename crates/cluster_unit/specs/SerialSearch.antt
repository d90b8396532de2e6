-- What a search for the first choice that serves a hart tells.
use Rattle.std.specs.Prelude.{◌≡◌, ℕ, ◌<◌, false, Option, None, Some}
use Rattle.dash_base.specs.declared.id.LineId.{LineId}
use Rattle.dash_model.specs.Config.{Config}
use Rattle.dash_model.specs.Part.{Part}
use Rattle.unit_rows.specs.declared.choice.Choice.{Choice}
use Rattle.unit_rows.specs.declared.choice.Choice.TheVariants.{Evict}
use Rattle.unit_rows.specs.Shown.{PartsView, Shows}
use Rattle.unit_rows.specs.Rows.{Enabled, Can, Cannot}
use Rattle.cluster_unit.specs.declared.cause.Cause.{Cause}
use Rattle.cluster_unit.specs.declared.cause.Cause.TheVariants.{Store, Instruction}
use Rattle.cluster_unit.specs.Enabling.{is_take}
use Rattle.cluster_unit.specs.Serial.{StoreRoom, FrontRoom, serial_place}

-- this choice where it is enabled
abbrev pub Just : Config → ℕ → PartsView → Choice → Option Choice → Type 0
Just w c v x None = Cannot w c v x
Just w c v x (Some y) = (y ≡ x) × Can w c v x

-- an enabled choice of a place in the order, for which this is so
pub record IsAtPlace (w : Config) (c : ℕ) (v : PartsView) (P : Choice → Part → Type 0) (n : ℕ) (x : Choice) : Type 0 where
  pub own : is_take x ≡ false
  pub can : Can w c v x
  pub serves : (p : Part) → Shows w c v p → P x p
  pub place : serial_place x ≡ n

abbrev pub FoundAt : Config → ℕ → PartsView → (Choice → Part → Type 0) → ℕ → Option Choice → Type 0
FoundAt w c v P n None = (y : Choice) (p : Part) → Shows w c v p → Enabled w c y p → P y p → serial_place y ≡ n → ⊥
FoundAt w c v P n (Some x) = IsAtPlace w c v P n x

-- there is none before a place
abbrev pub NoneBefore : Config → ℕ → PartsView → (Choice → Part → Type 0) → ℕ → Type 0
NoneBefore w c v P n = (y : Choice) (p : Part) → Shows w c v p → Enabled w c y p → P y p → serial_place y < n → ⊥

-- the first of all
pub record IsFirstFor (w : Config) (c : ℕ) (v : PartsView) (P : Choice → Part → Type 0) (x : Choice) : Type 0 where
  pub own : is_take x ≡ false
  pub can : Can w c v x
  pub serves : (p : Part) → Shows w c v p → P x p
  pub first : NoneBefore w c v P (serial_place x)

abbrev pub FirstFor : Config → ℕ → PartsView → (Choice → Part → Type 0) → Option Choice → Type 0
FirstFor w c v P None = (y : Choice) (p : Part) → Shows w c v p → Enabled w c y p → P y p → ⊥
FirstFor w c v P (Some x) = IsFirstFor w c v P x

-- line m is in the way of what hart k needs for this cause
abbrev pub RoomFor : Cause → Config → ℕ → ℕ → ℕ → Part → Type 0
RoomFor Store w c k m p = StoreRoom w c k m p
RoomFor Instruction w c k m p = FrontRoom w c k m p

abbrev pub MakesRoom : Cause → Config → ℕ → PartsView → ℕ → ℕ → Type 0
MakesRoom cause w c v k m = (p : Part) → Shows w c v p → RoomFor cause w c k m p

abbrev pub CannotMake : Cause → Config → ℕ → PartsView → ℕ → LineId → Type 0
CannotMake cause w c v k m = (p : Part) → Shows w c v p → Enabled w c (Evict k m) p → RoomFor cause w c k m.0 p → ⊥

-- such a line that the hart may give up
pub record IsRoom (cause : Cause) (w : Config) (c : ℕ) (v : PartsView) (k : ℕ) (x : Choice) : Type 0 where
  pub line : LineId
  pub is : x ≡ Evict k line
  pub can : Can w c v (Evict k line)
  pub room : MakesRoom cause w c v k line.0

abbrev pub FindsRoom : Cause → Config → ℕ → PartsView → ℕ → Option Choice → Type 0
FindsRoom cause w c v k None = (m : LineId) → CannotMake cause w c v k m
FindsRoom cause w c v k (Some x) = IsRoom cause w c v k x
