-- What the program has ready to print, as contracts see it.
use Rattle.std.specs.Prelude.{◌≡◌, ℕ, ◌⊎◌, Bool, true, List, ◌∷◌, [], Option, string_bytes}
use Rattle.std.specs.List.{AllByRecursion}
use Rattle.dash_base.specs.Outside.{Files, Call, with_calls}
use Rattle.dash_base.specs.declared.host.Stream.{Stream}
use Rattle.dash_base.specs.declared.host.Stream.TheVariants as stream
use Rattle.dash_base.specs.declared.topology.Topology.{Topology}
use Rattle.dash_base.specs.declared.topology.TopoRefusal.{TopoRefusal}
use Rattle.elf_load.specs.Refusal.{IsFirstRefusal, IsLoadable}
use Rattle.elf_load.specs.declared.memory_map.MemoryMap.{MemoryMap}
use Rattle.elf_load.specs.declared.refusal.LoadRefusal.{LoadRefusal}
use Rattle.round_run.specs.Finished.{status_of}
use Rattle.round_run.specs.declared.finished.Cause.{Cause}
use Rattle.dash_model.specs.Config.{Config}
use Rattle.trace_text.specs.Fits.{FitsEvent}
use Rattle.dash_run.specs.declared.output.Output.{Output}
use Rattle.dash_run.specs.declared.output.Output.TheVariants.{Usage, Line, Report, Summary}
use Rattle.dash_run.specs.declared.command_line.Command.{Command}
use Rattle.dash_run.specs.declared.command_line.MachineWords as code_words
use Rattle.dash_run.specs.declared.command_line.MachineWords.TheVariants as code_word
use Rattle.dash_run.specs.declared.inputs.Inputs as code_inputs
use Rattle.dash_run.specs.declared.inputs.Source as code_sources
use Rattle.dash_run.specs.declared.inputs.Source.TheVariants as code_source
use Rattle.dash_run.specs.declared.files.LoadedFile.{LoadedFile}
use Rattle.dash_run.specs.declared.files.LoadedFile.TheVariants.{Bytes, NoBytes}
use Rattle.dash_run.specs.declared.files.Loaded.{Loaded}
use Rattle.dash_run.specs.declared.files.Loaded.TheVariants.{Given, NotGiven}
use Rattle.dash_run.specs.CommandLine.{MachineWords, Sizes, File, Request}
use Rattle.dash_run.specs.Inputs.{NamedFile, Source, Numbers, Text, Inputs, IsGiven, AreGiven, loads_of, IsReached, IsLoading}
use Rattle.dash_run.specs.Accepted.{IsRefusedTopology, IsRefused, config_of}
use Rattle.dash_run.specs.Ran.{Ran, no_run, IsRunOf}
use Rattle.dash_run.specs.Report.{report_of}
use Rattle.dash_run.specs.Outcome.{usage_line, topology_line, refusal_line, IsReported, IsFaultLine, IsOutput, IsBegun, BreakOff}

abbrev pub output_status : Output → ℕ
output_status Usage = 2
output_status (Line status text) = status
output_status (Report status sections) = status
output_status (Summary text) = 0

abbrev pub output_stream : Output → Stream
output_stream Usage = stream.Err
output_stream (Line status text) = stream.Err
output_stream (Report status sections) = stream.Out
output_stream (Summary text) = stream.Out

-- one text for each print
abbrev pub output_texts : Output → List (List ℕ)
output_texts Usage = usage_line ∷ []
output_texts (Line status text) = string_bytes text ∷ []
output_texts (Report status sections) = sections
output_texts (Summary text) = text.items ∷ []

-- what the words ask for, as the code has it
abbrev pub machine_of : code_words.MachineWords → MachineWords
machine_of (code_word.Sizes clusters harts budget) = Sizes clusters harts budget
machine_of (code_word.File name) = File name.now

abbrev pub request_of : Command → Request
request_of command = record { image = command.image.now; machine = machine_of command.machine; log = command.log }

-- what the host gave, as the code has it
abbrev pub source_of : code_sources.Source → Source
source_of (code_source.Numbers clusters harts budget) = Numbers clusters harts budget
source_of (code_source.Text bytes) = Text bytes.items

abbrev pub inputs_of : code_inputs.Inputs → Inputs
inputs_of inputs = record { image = inputs.image.items; source = source_of inputs.source }

-- the line for a topology that is refused
pub record IsTopologyLine (inputs : Inputs) (status : ℕ) (text : List ℕ) : Type 0 where
  pub refusal : TopoRefusal
  pub refused : IsRefusedTopology inputs refusal
  pub status_is : status ≡ 4
  pub text_is : text ≡ topology_line refusal

-- the line for an image that is refused
pub record IsRefusalLine (inputs : Inputs) (status : ℕ) (text : List ℕ) : Type 0 where
  pub refusal : LoadRefusal
  pub refused : IsRefused inputs refusal
  pub status_is : status ≡ 3
  pub text_is : text ≡ refusal_line refusal

-- what loading one file came to: its bytes, or the line for it
abbrev pub IsFile : Option Files → ℕ → ℕ → NamedFile → LoadedFile → Type 0
IsFile files before after file (Bytes bytes) = IsGiven files file bytes.items × (after ≡ before)
IsFile files before after file (NoBytes text) = IsFaultLine files before after file (string_bytes text)

-- the inputs that a request names were given, by these calls
pub record HasInputs (files : Option Files) (before after : ℕ) (old new : Option (List Call)) (q : Request) (inputs : Inputs) : Type 0 where
  pub given : AreGiven files q inputs
  pub same : after ≡ before
  pub made : new ≡ with_calls old (loads_of q)

-- a file was not given, by these calls, and this is the line for it
pub record HasFault (files : Option Files) (before after : ℕ) (old new : Option (List Call)) (q : Request) (text : List ℕ) : Type 0 where
  pub file : NamedFile
  pub loaded : List Call
  pub reached : IsReached files q file loaded
  pub fault : IsFaultLine files before after file text
  pub made : new ≡ with_calls old loaded

-- what loading the files of a request came to
abbrev pub HasLoaded : Option Files → ℕ → ℕ → Option (List Call) → Option (List Call) → Request → Loaded → Type 0
HasLoaded files before after old new q (Given inputs) = HasInputs files before after old new q (inputs_of inputs)
HasLoaded files before after old new q (NotGiven text) = HasFault files before after old new q (string_bytes text)

-- there was no memory while the files of a request were loaded, or after that
pub record HasBegun (q : Request) (old new : Option (List Call)) : Type 0 where
  pub loaded : List Call
  pub loading : IsLoading q loaded
  pub made : new ≡ with_calls old loaded

-- there was none in a call
pub record IsShort (words : List (List ℕ)) (old new : Option (List Call)) : Type 0 where
  pub loaded : List Call
  pub begun : IsBegun words loaded
  pub made : new ≡ with_calls old loaded

-- the output of a call stands ready, after these calls
pub record IsReady (words : List (List ℕ)) (files : Option Files) (before after : ℕ) (old new : Option (List Call)) (status : ℕ) (to : Stream) (texts : List (List ℕ)) (ran : Ran) : Type 0 where
  pub loaded : List Call
  pub output : IsOutput words files before after loaded status to texts ran
  pub made : new ≡ with_calls old loaded

-- the calls of a host while texts are printed, where a print fails
pub record HasTried (to : Stream) (texts : List (List ℕ)) (old new : Option (List Call)) : Type 0 where
  pub calls : List Call
  pub breaks_off : BreakOff to texts calls
  pub made : new ≡ with_calls old calls

-- what is printed for inputs, and what is left of a run
abbrev pub IsAnswer : Bool → Inputs → Output → Ran → Type 0
IsAnswer with_log inputs Usage ran = ⊥
IsAnswer with_log inputs (Line status text) ran = (IsTopologyLine inputs status (string_bytes text) ⊎ IsRefusalLine inputs status (string_bytes text)) × (ran ≡ no_run)
IsAnswer with_log inputs (Report status sections) ran = IsReported with_log inputs status sections ran
IsAnswer with_log inputs (Summary text) ran = ⊥

-- the report of a machine's run, with the log or without it
pub record IsRunReport (with_log : Bool) (w : Config) (status : ℕ) (texts : List (List ℕ)) (ran : Ran) : Type 0 where
  pub cause : Cause
  pub run : IsRunOf w ran cause
  pub is_status : status ≡ status_of cause
  pub is_report : texts ≡ report_of with_log w run.finished.end status ran.log
  pub log_fits : with_log ≡ true → AllByRecursion FitsEvent ran.log

-- what is printed is that report
abbrev pub IsReport : Bool → Config → Output → Ran → Type 0
IsReport with_log w (Report status sections) ran = IsRunReport with_log w status sections ran
IsReport with_log w _ ran = ⊥

-- what is printed on a topology that is accepted: the refusal of the image, or its report
pub record IsRefusalOn (t : Topology) (bytes : List ℕ) (status : ℕ) (text : List ℕ) : Type 0 where
  pub map : MemoryMap
  pub base : map.base ≡ t.base
  pub size : map.size ≡ t.memory
  pub refusal : LoadRefusal
  pub refused : IsFirstRefusal bytes map refusal
  pub status_is : status ≡ 3
  pub text_is : text ≡ refusal_line refusal

pub record IsReportOn (with_log : Bool) (t : Topology) (bytes : List ℕ) (output : Output) (ran : Ran) : Type 0 where
  pub map : MemoryMap
  pub base : map.base ≡ t.base
  pub size : map.size ≡ t.memory
  pub accepted : IsLoadable bytes map
  pub report : IsReport with_log (config_of bytes t) output ran

abbrev pub IsAnswerOn : Bool → Topology → List ℕ → Output → Ran → Type 0
IsAnswerOn with_log t bytes Usage ran = ⊥
IsAnswerOn with_log t bytes (Line status text) ran = IsRefusalOn t bytes status (string_bytes text) × (ran ≡ no_run)
IsAnswerOn with_log t bytes (Report status sections) ran = IsReportOn with_log t bytes (Report status sections) ran
IsAnswerOn with_log t bytes (Summary text) ran = ⊥
