-- When a choice is enabled, as the code's parts show it.
use Rattle.std.specs.Prelude.{◌<◌, Bool, true, false}
use Rattle.remote_cache.specs.View.{count}
use Rattle.dash_model.specs.Config.{Config}
use Rattle.unit_rows.specs.declared.choice.Choice.{Choice}
use Rattle.unit_rows.specs.declared.choice.Choice.TheVariants.{Step, Commit, BusRead, BusOwn, Evict, Ask, Again, Install, Take}
use Rattle.unit_rows.specs.Shown.{PartsView}
pub use Rattle.unit_rows.specs.Rows.{Can}

-- whether the choice is to take a message
abbrev pub is_take : Choice → Bool
is_take (Take f k) = true
is_take choice = false

-- the cluster has the hart or the slot that the choice names
abbrev pub IsInRange : Config → PartsView → Choice → Type 0
IsInRange w v (Step k) = k < w.top.harts
IsInRange w v (Commit k) = k < w.top.harts
IsInRange w v (BusRead k l) = k < w.top.harts
IsInRange w v (BusOwn k l) = k < w.top.harts
IsInRange w v (Evict k l) = k < w.top.harts
IsInRange w v (Ask n) = n < count v.slots
IsInRange w v (Again n) = n < count v.slots
IsInRange w v (Install n) = n < count v.slots
IsInRange w v choice = Unit {0}
