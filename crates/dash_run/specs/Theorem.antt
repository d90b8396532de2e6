-- What the clauses of `dash` say of a call that made a run.
use Rattle.std.specs.Prelude.{◌≡◌, ℕ, Bool, ◌⊎◌, List, [], ◌∷◌, Option}
use Rattle.dash_base.specs.Outside.{Files, Printed, Appends, AppendsPart, Follows, Rose, Call, print_on, failed_print_on, with_calls}
use Rattle.dash_base.specs.declared.host.Stream.TheVariants as stream
use Rattle.dash_event.specs.declared.event.Event.{Event}
use Rattle.dash_event.specs.Records.{records_of}
use Rattle.elf_load.specs.Loader.{image_of}
use Rattle.elf_load.specs.Refusal.{IsLoadable}
use Rattle.elf_load.specs.declared.memory_map.MemoryMap.{MemoryMap}
use Rattle.workload_gen.specs.Program as workload
use Rattle.workload_gen.specs.Workload as workload_sizes
use Rattle.workload_runs.specs.Runs.{whole_summary}
use Rattle.flat_model.specs.Run.{IsSequentialRun}
use Rattle.flat_model.specs.Race.{IsProperlyLabelled}
use Rattle.dash_model.specs.Config.{Config}
use Rattle.dash_model.specs.Machine.{Machine, Reaches}
use Rattle.dash_model.specs.Complete.{IsComplete, IsStatus}
use Rattle.dash_model.specs.Coherent.{IsCoherent}
use Rattle.dash_model.specs.Release.{KeepsReleases}
use Rattle.round_run.specs.declared.finished.Cause.{Cause}
use Rattle.dash_run.specs.CommandLine.{Request, Asks, AsksSeed, IsAsked, IsUsageError}
use Rattle.dash_run.specs.Ran.{Ran, IsRunOf}
use Rattle.dash_run.specs.Report.{report_of}
use Rattle.dash_run.specs.Inputs.{Inputs, AreGiven}
use Rattle.dash_run.specs.Accepted.{IsMachine}
use Rattle.dash_run.specs.Outcome.{Change, IsRunStatus, IsFault, NamesBadTopology, NamesRefused, joined}

-- a call made a run: it ended with the status of a run, or left a log
abbrev pub MadeRun : ℕ → List Event → Type 0
MadeRun status log = IsRunStatus status ⊎ (log ≡ [] → ⊥)

-- the words ask for this machine by the names of files: its topology is accepted, and so is its image; the files that they name are within their limits, and have the bytes that the host tells, where it tells its files
pub record IsOfFiles (words : List (List ℕ)) (files : Option Files) (w : Config) : Type 0 where
  pub request : Request
  pub asked : Asks words request
  pub inputs : Inputs
  pub given : AreGiven files request inputs
  pub map : MemoryMap
  pub is_machine : IsMachine inputs w.top map
  pub accepted : IsLoadable inputs.image map
  pub image : w.image ≡ image_of inputs.image

-- they ask for it by a seed: it has the image of the seed's workload, and the workload's topology
pub record IsOfSeed (words : List (List ℕ)) (w : Config) : Type 0 where
  pub seed : ℕ
  pub asked : AsksSeed words seed
  pub image : w.image ≡ workload.image_of seed
  pub topology : workload_sizes.IsMachine w.top

-- the words ask for this machine
pub data IsAskedFor (words : List (List ℕ)) (files : Option Files) (w : Config) : Type 0 where
  of_files : IsOfFiles words files w → IsAskedFor words files w
  of_seed : IsOfSeed words w → IsAskedFor words files w

-- it is so of the machine that the words ask for
pub record OfMachine (words : List (List ℕ)) (files : Option Files) (P : Config → Type 0) : Type 0 where
  pub machine : Config
  pub asked : IsAskedFor words files machine
  pub holds : P machine

-- it is a whole run of the machine: complete, merged from the logs of its units, which had 256 turns in each round, of fewer than 2^56
pub record IsWholeRun (ran : Ran) (w : Config) : Type 0 where
  pub cause : Cause
  pub run : IsRunOf w ran cause

-- a log is coherent, and keeps the release rule
pub record IsOrdered (log : List Event) (w : Config) : Type 0 where
  pub coherent : IsCoherent w.image w.top log
  pub releases : KeepsReleases w.image w.top log

-- where the image is properly labelled for the topology, the records of a log at their order points are a sequential run within the budgets
abbrev pub IsSequential : List Event → Config → Type 0
IsSequential log w = IsProperlyLabelled w.image w.top → IsSequentialRun w.image w.top (records_of log)

-- a log is that of a complete run with this exit status
pub record HasStatus (log : List Event) (status : ℕ) (w : Config) : Type 0 where
  pub end : Machine
  pub reaches : Reaches w log end
  pub complete : IsComplete w end
  pub is_status : IsStatus w end status

-- what was printed with a status: on standard output the report of the run, with the log where that is asked for, or where a print failed, which is status 5, a part of it; and nothing on standard error
pub data Gained (with_log : Bool) (w : Config) (end : Machine) (log : List Event) (printed : Change (Option Printed)) : ℕ → Type 0 where
  whole_report : (status : ℕ) → IsStatus w end status
      → Follows (Appends stream.Out (joined (report_of with_log w end status log))) printed.old printed.new → Gained with_log w end log printed status
  part_of_report : (status : ℕ) → IsStatus w end status
      → Follows (AppendsPart stream.Out (joined (report_of with_log w end status log))) printed.old printed.new → Gained with_log w end log printed 5

-- the report of a log was printed, as the words ask for it
pub record HasPrintedReport (words : List (List ℕ)) (log : List Event) (status : ℕ) (printed : Change (Option Printed)) (w : Config) : Type 0 where
  pub end : Machine
  pub reaches : Reaches w log end
  pub request : Request
  pub asks : Asks words request
  pub gained : Gained request.log w end log printed status

-- what was printed with a status for a seed: on standard output the summary of its workload, or where the print failed, which is status 5, a part of it; and nothing on standard error
pub data GainedSummary (seed : ℕ) (printed : Change (Option Printed)) : ℕ → Type 0 where
  all_of_it : Follows (Appends stream.Out (whole_summary seed)) printed.old printed.new → GainedSummary seed printed 0
  part_of_it : Follows (AppendsPart stream.Out (whole_summary seed)) printed.old printed.new → GainedSummary seed printed 5

-- the summary of a seed's workload was printed, as the words ask for it
pub record HasPrintedSummary (words : List (List ℕ)) (status : ℕ) (printed : Change (Option Printed)) : Type 0 where
  pub seed : ℕ
  pub asks : AsksSeed words seed
  pub gained : GainedSummary seed printed status

-- what the words ask for was printed: the report of a log, or the summary of a seed's workload
pub data HasPrinted (words : List (List ℕ)) (log : List Event) (status : ℕ) (printed : Change (Option Printed)) (w : Config) : Type 0 where
  as_report : HasPrintedReport words log status printed w → HasPrinted words log status printed w
  as_summary : HasPrintedSummary words status printed → HasPrinted words log status printed w

-- the cause of each exit status
pub data HasCause (words : List (List ℕ)) (files : Option Files) (loads prints : Change ℕ) (log : List Event) : ℕ → Type 0 where
  run_ended : (status : ℕ) → IsRunStatus status → OfMachine words files (HasStatus log status) → HasCause words files loads prints log status
  no_form : IsUsageError words → HasCause words files loads prints log 2
  image_refused : NamesRefused words files → HasCause words files loads prints log 3
  topology_refused : NamesBadTopology words files → HasCause words files loads prints log 4
  had_fault : IsFault words files loads prints → HasCause words files loads prints log 5
  had_no_memory : IsAsked words → HasCause words files loads prints log 6

-- how a call for a seed ended: with status 0 it printed the summary of the seed's workload; with status 5 a part of it, and the print failed; with status 6 there was no memory, and it printed nothing; and it made no other call of the host
pub data EndsSummed (seed : ℕ) (prints : Change ℕ) (printed : Change (Option Printed)) (calls : Change (Option (List Call))) : ℕ → Type 0 where
  summed_up : prints.new ≡ prints.old → Follows (Appends stream.Out (whole_summary seed)) printed.old printed.new
      → calls.new ≡ with_calls calls.old (print_on stream.Out (whole_summary seed) ∷ []) → EndsSummed seed prints printed calls 0
  broke_off : Rose prints.old prints.new → Follows (AppendsPart stream.Out (whole_summary seed)) printed.old printed.new
      → calls.new ≡ with_calls calls.old (failed_print_on stream.Out (whole_summary seed) ∷ []) → EndsSummed seed prints printed calls 5
  had_none : prints.new ≡ prints.old → printed.new ≡ printed.old → calls.new ≡ calls.old → EndsSummed seed prints printed calls 6
