-- What a list of choices has while it is made: just the enabled ones of a range that grows.
use Rattle.std.specs.Prelude.{◌≡◌, ◌⊎◌, ℕ, ◌<◌, false, Option, None, Some, List, [], ◌∷◌, ◌++◌}
use Rattle.std.specs.List.{All, Contains}
use Rattle.dash_base.specs.declared.id.LineId.{LineId}
use Rattle.dash_model.specs.Config.{Config}
use Rattle.dash_model.specs.Part.{Part}
use Rattle.unit_rows.specs.declared.choice.Choice.{Choice}
use Rattle.unit_rows.specs.declared.choice.Choice.TheVariants as choice
use Rattle.unit_rows.specs.Shown.{PartsView, Shows}
use Rattle.unit_rows.specs.Rows.{Enabled, Cannot}
use Rattle.cluster_unit.specs.declared.by_number.ByNumber.{ByNumber}
use Rattle.cluster_unit.specs.declared.by_number.ByNumber.TheVariants as number
use Rattle.cluster_unit.specs.Enabling.{Can, is_take}
use Rattle.cluster_unit.specs.Order.{kind_place, number_in, AreInOrder}

-- a choice was put at the end of the list where it is enabled, and else left out
pub data Offers (w : Config) (c : ℕ) (v : PartsView) (x : Choice) (old new : List Choice) : Type 0 where
  PutIn : Can w c v x → new ≡ old ++ x ∷ [] → Offers w c v x old new
  LeftOut : Cannot w c v x → new ≡ old → Offers w c v x old new

-- just the enabled choices of a range, but for those to take a message; each once, in their order
pub record HasListed (w : Config) (c : ℕ) (v : PartsView) (InRange : Choice → Type 0) (choices : List Choice) : Type 0 where
  pub just : All (Can w c v) choices
  pub within : All InRange choices
  pub whole : (x : Choice) (p : Part) → Shows w c v p → is_take x ≡ false → Enabled w c x p → InRange x → Contains choices x
  pub ordered : (p : Part) → Shows w c v p → AreInOrder w c p choices

-- those of the kinds before this place, and of the kind at it those with numbers below n
abbrev pub IsBelow : ℕ → ℕ → Choice → Type 0
IsBelow place n x = (kind_place x < place) ⊎ ((kind_place x ≡ place) × (number_in x < n))

-- a choice of hart k to hold a line that it reads, and to own this line, if there is one
abbrev pub IsReadOf : ℕ → Choice → Type 0
IsReadOf k (choice.BusRead h l) = h ≡ k
IsReadOf k x = ⊥

abbrev pub IsOwnOf : ℕ → Option LineId → Choice → Type 0
IsOwnOf k None x = ⊥
IsOwnOf k (Some m) x = x ≡ choice.BusOwn k m

-- up to those of hart k to read, and up to those for its instruction
abbrev pub IsRead : ℕ → Choice → Type 0
IsRead k x = IsBelow 3 k x ⊎ IsReadOf k x

abbrev pub IsWritten : ℕ → Option LineId → Choice → Type 0
IsWritten k found x = IsRead k x ⊎ IsOwnOf k found x

-- the choice of a kind that goes by one number, and the kind's place
abbrev pub choice_of : ByNumber → ℕ → Choice
choice_of number.Step n = choice.Step n
choice_of number.Commit n = choice.Commit n
choice_of number.Ask n = choice.Ask n
choice_of number.Again n = choice.Again n
choice_of number.Install n = choice.Install n

abbrev pub place_of : ByNumber → ℕ
place_of kind = kind_place (choice_of kind 0)
