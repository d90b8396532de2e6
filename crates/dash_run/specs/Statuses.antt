-- What follows of a call of the program from how it ended: the cause of each status, the status of each cause, and the calls of the host. Each is the contract of a function of `laws`.
use Rattle.std.specs.Prelude.{◌≡◌, ℕ, ◌<◌, ◌⊎◌, List, [], ◌∷◌, ◌++◌, length, map, Option, Some}
use Rattle.dash_base.specs.Outside.{Files, Printed, Rose, Call, print_on, with_calls}
use Rattle.dash_base.specs.declared.host.Stream.{Stream}
use Rattle.dash_base.specs.declared.host.Stream.TheVariants as stream
use Rattle.dash_base.specs.declared.topology.TopoRefusal.{TopoRefusal}
use Rattle.elf_load.specs.declared.refusal.LoadRefusal.{LoadRefusal}
use Rattle.dash_run.specs.CommandLine.{Request, Asks, AsksSeed, IsUsageError}
use Rattle.dash_run.specs.Generated.{IsGenerated}
use Rattle.dash_run.specs.Ran.{Ran}
use Rattle.dash_run.specs.Theorem.{MadeRun}
use Rattle.dash_run.specs.Inputs.{NamedFile, IsFileOf, Inputs, AreGiven, AreThere, AreSmall, loads_of}
use Rattle.dash_run.specs.Accepted.{IsRefusedTopology, IsRefused, IsAccepted}
use Rattle.dash_run.specs.Outcome.{Ends, Change, LoadsOf, PrintsPart, IsReported, IsRunStatus, IsFault, IsSteady, IsFaultless, IsClean, NamesBadTopology, NamesRefused, NamesRun, usage_line}

-- a call of the program: its words, what its host told before and after, its status and what it left of a run, and the clause `outcome`
pub record TopCall : Type 0 where
  pub words : List (List ℕ)
  pub files : Option Files
  pub loads : Change ℕ
  pub prints : Change ℕ
  pub printed : Change (Option Printed)
  pub calls : Change (Option (List Call))
  pub status : ℕ
  pub ran : Ran
  pub ends : Ends words files loads prints printed calls status ran

-- no fault was counted in a call for a request, whose host tells its files
abbrev pub IsFaultlessCall : TopCall → Request → Files → Type 0
IsFaultlessCall c q file_at = IsFaultless c.words c.files c.loads c.prints q file_at

-- and these inputs are there
abbrev pub IsCleanCall : TopCall → Request → Inputs → Type 0
IsCleanCall c q inputs = IsClean c.words c.files c.loads c.prints q inputs

-- ---- the cause of each status

-- status 2 comes only where the words have no form
abbrev pub UsageHasCause : Type 0
UsageHasCause = (c : TopCall) → c.status ≡ 2 → IsUsageError c.words

-- status 3 comes only for an image that is refused
abbrev pub RefusalHasCause : Type 0
RefusalHasCause = (c : TopCall) → c.status ≡ 3 → NamesRefused c.words c.files

-- status 4 comes only for a topology that is refused
abbrev pub BadTopologyHasCause : Type 0
BadTopologyHasCause = (c : TopCall) → c.status ≡ 4 → NamesBadTopology c.words c.files

-- status 5 comes only where a count of faults rose, or for a file above its limit
abbrev pub FaultHasCause : Type 0
FaultHasCause = (c : TopCall) → c.status ≡ 5 → IsFault c.words c.files c.loads c.prints

-- with status 6 nothing was printed
abbrev pub OutOfMemoryIsQuiet : Type 0
OutOfMemoryIsQuiet = (c : TopCall) → c.status ≡ 6 → c.printed.new ≡ c.printed.old

-- the statuses of a run come only for the whole run of an image that is accepted, or of a seed's workload
abbrev pub RunHasCause : Type 0
RunHasCause = (c : TopCall) → IsRunStatus c.status → NamesRun c.words c.files c.status c.ran

-- ---- the status of each cause

-- words without a form give status 2, or 5 where the line could not be printed
abbrev pub NoFormIsUsage : Type 0
NoFormIsUsage = (c : TopCall) → IsUsageError c.words → (c.status ≡ 2) ⊎ ((c.status ≡ 5) × Rose c.prints.old c.prints.new)

-- a load that failed gives status 5 or 6
abbrev pub FailedLoadIsFault : Type 0
FailedLoadIsFault = (c : TopCall) → c.loads.old < c.loads.new → (c.status ≡ 5) ⊎ (c.status ≡ 6)

-- a print that failed gives status 5
abbrev pub FailedPrintIsFault : Type 0
FailedPrintIsFault = (c : TopCall) → c.prints.old < c.prints.new → c.status ≡ 5

-- where no fault was counted, a file above its limit gives status 5 or 6
abbrev pub LargeFileIsFault : Type 0
LargeFileIsFault =
    (c : TopCall) (q : Request) (file_at : Files) (file : NamedFile) (bytes : List ℕ) → IsFaultlessCall c q file_at → IsFileOf q file
    → file_at file.name ≡ Some bytes → file.limit < length bytes → (c.status ≡ 5) ⊎ (c.status ≡ 6)

-- else a topology that is refused gives status 4 or 6
abbrev pub BadTopologyIsTold : Type 0
BadTopologyIsTold =
    (c : TopCall) (q : Request) (inputs : Inputs) → IsCleanCall c q inputs → AreSmall q inputs
    → (refusal : TopoRefusal) → IsRefusedTopology inputs refusal → (c.status ≡ 4) ⊎ (c.status ≡ 6)

-- else an image that is refused gives status 3 or 6
abbrev pub RefusalIsTold : Type 0
RefusalIsTold =
    (c : TopCall) (q : Request) (inputs : Inputs) → IsCleanCall c q inputs → AreSmall q inputs
    → (refusal : LoadRefusal) → IsRefused inputs refusal → (c.status ≡ 3) ⊎ (c.status ≡ 6)

-- else an image that is accepted gives the status of its run, or 6
abbrev pub AcceptedImageRuns : Type 0
AcceptedImageRuns =
    (c : TopCall) (q : Request) (inputs : Inputs) → IsCleanCall c q inputs → AreSmall q inputs
    → IsAccepted inputs → IsRunStatus c.status ⊎ (c.status ≡ 6)

-- no load failed in a call for these inputs, which the host tells, and which are within the limits of their files
pub record IsLoaded (words : List (List ℕ)) (files : Option Files) (loads : Change ℕ) (q : Request) (inputs : Inputs) : Type 0 where
  pub asked : Asks words q
  pub file_at : Files
  pub told : files ≡ Some file_at
  pub there : AreThere file_at q inputs
  pub loads_steady : IsSteady loads
  pub small : AreSmall q inputs

-- where no load failed and topology and image are accepted, status 5 comes after a run, which is left: only its report could not be printed
abbrev pub FailedReportLeavesRun : Type 0
FailedReportLeavesRun =
    (c : TopCall) (q : Request) (inputs : Inputs) → IsLoaded c.words c.files c.loads q inputs → IsAccepted inputs → c.status ≡ 5
    → Rose c.prints.old c.prints.new × MadeRun c.status c.ran.log

-- ---- the calls of the host

-- the host's calls were the loads of the files that the words name and a print on standard output for each section of the run's report
pub record MakesReportCalls (words : List (List ℕ)) (files : Option Files) (calls : Change (Option (List Call))) (status : ℕ) (ran : Ran) : Type 0 where
  pub request : Request
  pub asked : Asks words request
  pub inputs : Inputs
  pub given : AreGiven files request inputs
  pub texts : List (List ℕ)
  pub reported : IsReported request.log inputs status texts ran
  pub made : calls.new ≡ with_calls calls.old (loads_of request ++ map (print_on stream.Out) texts)

-- the host's only call was a print on standard output of the summary of a run of a seed's workload
pub record MakesSummaryCalls (words : List (List ℕ)) (calls : Change (Option (List Call))) (ran : Ran) : Type 0 where
  pub seed : ℕ
  pub asked : AsksSeed words seed
  pub text : List ℕ
  pub generated : IsGenerated seed text ran
  pub made : calls.new ≡ with_calls calls.old (print_on stream.Out text ∷ [])

-- the host's calls were those of a run's report, or of its summary
pub data MakesRunCalls (words : List (List ℕ)) (files : Option Files) (calls : Change (Option (List Call))) : ℕ → Ran → Type 0 where
  for_report : (status : ℕ) (ran : Ran) → MakesReportCalls words files calls status ran → MakesRunCalls words files calls status ran
  for_summary : (ran : Ran) → MakesSummaryCalls words calls ran → MakesRunCalls words files calls 0 ran

-- the last of the host's calls was a print that failed
pub record StopsAtPrint (words : List (List ℕ)) (calls : Change (Option (List Call))) : Type 0 where
  pub loaded : List Call
  pub are_loads : LoadsOf words loaded
  pub to : Stream
  pub texts : List (List ℕ)
  pub prints_part : PrintsPart loaded to texts calls

-- with the statuses of a run the calls were the load of each file and a print of each section, or a print of the summary
abbrev pub RunsLoadAndPrint : Type 0
RunsLoadAndPrint = (c : TopCall) → IsRunStatus c.status → MakesRunCalls c.words c.files c.calls c.status c.ran

-- with status 2 the only call was the print of the usage line
abbrev pub UsageMakesOneCall : Type 0
UsageMakesOneCall = (c : TopCall) → c.status ≡ 2 → c.calls.new ≡ with_calls c.calls.old (print_on stream.Err usage_line ∷ [])

-- no call follows a print that failed
abbrev pub NothingAfterFailedPrint : Type 0
NothingAfterFailedPrint = (c : TopCall) → c.prints.old < c.prints.new → StopsAtPrint c.words c.calls
