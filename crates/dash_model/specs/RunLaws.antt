-- What the logs of runs are, in the words of logs alone.
use Rattle.std.specs.Prelude.{List}
use Rattle.dash_event.specs.declared.event.Event.{Event}
use Rattle.dash_model.specs.Config.{Config}
use Rattle.dash_model.specs.Machine.{IsRun}
use Rattle.dash_model.specs.Coherent.{IsCoherent}
use Rattle.dash_model.specs.Release.{KeepsReleases}
use Rattle.dash_model.specs.Admissible.{IsAdmissible}

-- every run is coherent
abbrev pub RunsAreCoherent : Type 0
RunsAreCoherent = (w : Config) (log : List Event) → IsRun w log → IsCoherent w.image w.top log

-- every run keeps the release rule
abbrev pub RunsKeepReleases : Type 0
RunsKeepReleases = (w : Config) (log : List Event) → IsRun w log → KeepsReleases w.image w.top log

-- every run is an admissible log
abbrev pub RunsAreAdmissible : Type 0
RunsAreAdmissible = (w : Config) (log : List Event) → IsRun w log → IsAdmissible w.image w.top log
