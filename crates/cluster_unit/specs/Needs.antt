-- The lines that the harts of a cluster need, by their numbers.
use Rattle.std.specs.Prelude.{◌≡◌, ℕ, ◌<◌, List, length, slice_index_or}
use Rattle.dash_model.specs.Config.{Config}
use Rattle.unit_rows.specs.declared.needed.Needed.{Needed}
use Rattle.unit_rows.specs.AllNeeds.{AreNeeded}
use Rattle.unit_rows.specs.Shown.{PartsView}

-- what the first n harts need, and no more
pub record AreAllNeeded (w : Config) (c : ℕ) (v : PartsView) (n : ℕ) (needs : List Needed) : Type 0 where
  pub count : length needs ≡ n
  pub each : (k : ℕ) (d : Needed) → k < n → AreNeeded w c v k (slice_index_or needs k d)
