-- Laws of logs and sequential runs. Each is the contract of a function of `laws`.
use Rattle.std.specs.Prelude.{◌≡◌, List}
use Rattle.dash_base.specs.declared.topology.Topology.{Topology}
use Rattle.elf_load.specs.Image.{ImageView}
use Rattle.dash_event.specs.Records.{console_of, records_of}
use Rattle.dash_event.specs.declared.event.Event.{Event}
use Rattle.dash_base.specs.Places.{hart_count}
use Rattle.flat_model.specs.State.{FlatState}
use Rattle.flat_model.specs.Run.{RunsTo, IsSequentialRun}
use Rattle.flat_model.specs.Race.{IsProperlyLabelled}
use Rattle.dash_model.specs.Admissible.{IsAdmissible}
use Rattle.dash_model.specs.Config.{Config}
use Rattle.dash_model.specs.Machine.{IsRun}

-- where an image is properly labelled, each admissible log has its records in the order of a sequential run
abbrev pub CommitOrder : Type 0
CommitOrder = (image : ImageView) (t : Topology) (log : List Event) → IsProperlyLabelled image t → IsAdmissible image t log → IsSequentialRun image t (records_of log)

-- where the image is properly labelled, the records of each run of the machine are a sequential run within the budgets
abbrev pub RunsAreSequential : Type 0
RunsAreSequential = (w : Config) (log : List Event) → IsProperlyLabelled w.image w.top → IsRun w log → IsSequentialRun w.image w.top (records_of log)

-- one hart reads what it wrote, whatever the image
abbrev pub OneHartIsInOrder : Type 0
OneHartIsInOrder = (image : ImageView) (t : Topology) (log : List Event) → hart_count t ≡ 1 → IsAdmissible image t log → IsSequentialRun image t (records_of log)

-- a run of the records of a log leaves the console of the log
abbrev pub ConsoleIsTheRuns : Type 0
ConsoleIsTheRuns = (image : ImageView) (t : Topology) (log : List Event) (s : FlatState) → RunsTo image t (records_of log) s → s.console ≡ console_of log
