-- What the loop over the harts of a sweep keeps.
use Rattle.std.proofs.Common.{◌≡◌, ℕ, ◌<◌, ◌≤◌, List, length, slice_index_or}
use Rattle.dash_model.specs.Config.{Config}
use Rattle.unit_rows.specs.declared.parts.Local.{Local}
use Rattle.unit_rows.specs.Sweeps.{is_lost, swept}

-- the first harts are swept, and the others not yet
pub record SoFar (w : Config) (l before after : ℕ) (old now : List Local) (n : ℕ) : Type 0 where
  pub as_many : length now ≡ length old
  pub done : (k : ℕ) (d : Local) → k < length old → k < n → slice_index_or now k d ≡ swept w l (is_lost before after k) (slice_index_or old k d)
  pub rest : (k : ℕ) (d : Local) → k < length old → n ≤ k → slice_index_or now k d ≡ slice_index_or old k d
