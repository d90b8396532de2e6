-- A unit's core as contracts see it.
use Rattle.std.specs.Prelude.{ℕ, List}
use Rattle.dash_event.specs.declared.event.Event.{Event}
use Rattle.mesh_lanes.specs.View.{OutletView, InletView}
use Rattle.dash_model.specs.Config.{Config}

-- what it runs, as which cluster; what happened there so far; the ends of its lanes; for how many turns it has memory; and the weight of what it has left to settle
pub record CoreView : Type 0 where
  pub config : Config
  pub cluster : ℕ
  pub log : List Event
  pub outlets : List OutletView
  pub inlets : List InletView
  pub reserved : ℕ
  pub weight : ℕ
