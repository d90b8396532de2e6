-- Laws of reports. Each is the contract of a function of `laws`.
use Rattle.std.specs.Prelude.{◌≡◌, ℕ, ◌<◌, Bool, true, Some, List, [], map}
use Rattle.dash_base.specs.Outside.{Files}
use Rattle.dash_base.specs.declared.end.End.TheVariants.{Running}
use Rattle.dash_event.specs.declared.event.Event.{Event}
use Rattle.dash_event.specs.Records.{unseen, accesses_of, records_of, console_of}
use Rattle.flat_model.specs.FlatEnd as flat
use Rattle.dash_model.specs.Config.{Config, all_harts}
use Rattle.dash_model.specs.Machine.{Machine, Reaches}
use Rattle.dash_model.specs.Complete.{IsComplete, IsCompleteRun, IsWaiting}
use Rattle.trace_text.specs.LogText.{log_text}
use Rattle.trace_text.specs.Reading.{IsTextOf}
use Rattle.dash_run.specs.Inputs.{Inputs}
use Rattle.dash_run.specs.Outcome.{IsReported}
use Rattle.dash_run.specs.Ran.{Ran}
use Rattle.dash_run.specs.Report.{hart_of}
use Rattle.dash_run.specs.Theorem.{IsAskedFor}

-- the accesses of a log, which the report prints, are those of its records in their order, but for what they were shown
abbrev pub PrintedAccessesAreTheRecords : Type 0
PrintedAccessesAreTheRecords = (log : List Event) → map unseen (accesses_of log) ≡ flat.accesses_of (records_of log)

-- the console of the state that a run leads to is that of its log
abbrev pub ConsoleIsOfTheLog : Type 0
ConsoleIsOfTheLog = (w : Config) (log : List Event) (m : Machine) → Reaches w log m → m.console ≡ console_of log

-- where a complete run ends, a hart that runs and has instructions left waits for a lock word
abbrev pub HartsThatAreLeftWait : Type 0
HartsThatAreLeftWait =
    (w : Config) (m : Machine) → IsComplete w m → (h : ℕ) → h < all_harts w
    → (hart_of w m h).end ≡ Running → (hart_of w m h).retired < w.top.budget → IsWaiting w h m

-- something happens in each complete run
abbrev pub CompleteRunsAreNotEmpty : Type 0
CompleteRunsAreNotEmpty = (w : Config) → IsCompleteRun w [] → ⊥

-- a log has one report: whatever else two calls for an image's bytes and a machine left, where their logs are one, so are exit status and report
abbrev pub OneReport : Type 0
OneReport =
    (with_log : Bool) (inputs : Inputs) (status status' : ℕ) (texts texts' : List (List ℕ)) (ran ran' : Ran)
    → IsReported with_log inputs status texts ran → IsReported with_log inputs status' texts' ran' → ran.log ≡ ran'.log → (status ≡ status') × (texts ≡ texts')

-- where the host tells its files, the words ask for one machine
abbrev pub OneMachine : Type 0
OneMachine = (words : List (List ℕ)) (file_at : Files) (w w' : Config) → IsAskedFor words (Some file_at) w → IsAskedFor words (Some file_at) w' → w ≡ w'

-- what is read of the log section of a report is the log of its run
abbrev pub PrintedLogsAreReadBack : Type 0
PrintedLogsAreReadBack =
    (inputs : Inputs) (status : ℕ) (texts : List (List ℕ)) (ran : Ran)
    → IsReported true inputs status texts ran → (read : List Event) → IsTextOf (log_text ran.log) read → read ≡ ran.log
