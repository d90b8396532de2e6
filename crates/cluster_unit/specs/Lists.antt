-- What a list of a cluster's choices has.
use Rattle.std.specs.Prelude.{◌≡◌, ℕ, false, List}
use Rattle.std.specs.List.{All, Contains}
use Rattle.dash_model.specs.Config.{Config}
use Rattle.dash_model.specs.Part.{Part}
use Rattle.unit_rows.specs.declared.choice.Choice.{Choice}
use Rattle.unit_rows.specs.Shown.{PartsView, Shows}
use Rattle.unit_rows.specs.Rows.{Enabled}
use Rattle.cluster_unit.specs.Enabling.{Can, is_take}
use Rattle.cluster_unit.specs.Order.{AreInOrder}

-- just the choices that are enabled, but for those to take a message; each once, in their order
pub record ListsOwn (w : Config) (c : ℕ) (v : PartsView) (choices : List Choice) : Type 0 where
  pub just : All (Can w c v) choices
  pub own : All (λ x. is_take x ≡ false) choices
  pub whole : (x : Choice) (p : Part) → Shows w c v p → is_take x ≡ false → Enabled w c x p → Contains choices x
  pub ordered : (p : Part) → Shows w c v p → AreInOrder w c p choices
