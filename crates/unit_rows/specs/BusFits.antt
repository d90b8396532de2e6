-- What the code's parts have where a hart may get a line from its cluster.
use Rattle.std.specs.Prelude.{◌≢◌, ℕ, None}
use Rattle.snoop_bus.specs.View.{copy_of, owner_at, HasHartRoom}
use Rattle.dash_model.specs.Config.{Config}
use Rattle.dash_model.specs.Part.{Part}
use Rattle.dash_model.specs.Wants.{NeedsCopy, NeedsOwn}
use Rattle.unit_rows.specs.Shown.{PartsView, hart_at, Shows}

-- hart k needs a copy of line l, which its cluster has, and has room for it
pub record BusReadFits (w : Config) (c : ℕ) (v : PartsView) (k l : ℕ) : Type 0 where
  pub needs : (p : Part) → Shows w c v p → NeedsCopy w (hart_at w c k) l p
  pub copy : copy_of v.bus l ≢ None
  pub room : HasHartRoom v.bus k l

-- hart k needs to own line l, of which its cluster has an owner, and has room for it
pub record BusOwnFits (w : Config) (c : ℕ) (v : PartsView) (k l : ℕ) : Type 0 where
  pub needs : (p : Part) → Shows w c v p → NeedsOwn w (hart_at w c k) l p
  pub owner : owner_at v.bus l ≢ None
  pub room : HasHartRoom v.bus k l
