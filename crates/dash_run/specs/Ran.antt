-- What a call leaves of a run.
use Rattle.std.specs.Prelude.{ℕ, Bool, List, []}
use Rattle.dash_event.specs.declared.event.Event.{Event}
use Rattle.dash_model.specs.Config.{Config}
use Rattle.round_run.specs.Finished.{IsFinished}
use Rattle.round_run.specs.Units.{UnitView}
use Rattle.round_run.specs.declared.finished.Cause.{Cause}

-- its log, the units of its clusters, and after how many rounds it ended
pub record Ran : Type 0 where
  pub log : List Event
  pub units : List UnitView
  pub rounds : ℕ

-- no run was made
abbrev pub no_run : Ran
no_run = record { log = []; units = []; rounds = 0 }

-- what is seen of a unit, of just that
abbrev pub itself : UnitView → UnitView
itself u = u

-- a run of machine w ended, for this cause
pub record IsRunOf (w : Config) (ran : Ran) (cause : Cause) : Type 0 where
  pub waits : List Bool
  pub finished : IsFinished itself w ran.log ran.units ran.rounds waits cause
