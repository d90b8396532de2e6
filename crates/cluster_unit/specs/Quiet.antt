-- A cluster in which nothing is under way.
use Rattle.std.specs.Prelude.{◌≡◌, ℕ, ◌<◌, []}
use Rattle.dash_model.specs.Config.{Config}
use Rattle.dash_model.specs.Cell.{NoSlot, NoAcks}
use Rattle.dash_model.specs.Part.{Part}
use Rattle.unit_rows.specs.Shown.{hart_at}

-- no line has a slot or acknowledgements, and no store of its harts waits
pub record IsQuiet (w : Config) (c : ℕ) (p : Part) : Type 0 where
  pub slots : (l : ℕ) → (p.cells l).slot ≡ NoSlot
  pub acks : (l : ℕ) → (p.cells l).acks ≡ NoAcks
  pub buffers : (k : ℕ) → k < w.top.harts → (p.harts (hart_at w c k)).buffer ≡ []
