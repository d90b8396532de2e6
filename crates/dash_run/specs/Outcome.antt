-- The output of a call of the program, and how it may end.
use Rattle.std.specs.Prelude.{◌≡◌, ℕ, Bool, true, ◌<◌, ◌⊎◌, List, [], ◌∷◌, ◌++◌, map, fold, codes, decimal, Option, Some}
use Rattle.dash_base.specs.Outside.{Files, Printed, Appends, AppendsPart, Follows, Rose, last_count, Call, print_on, failed_print_on, with_calls}
use Rattle.dash_base.specs.Names.{key_name}
use Rattle.dash_base.specs.declared.host.Stream.{Stream}
use Rattle.dash_base.specs.declared.host.Stream.TheVariants as stream
use Rattle.dash_base.specs.declared.topology.Topology.{Topology}
use Rattle.dash_base.specs.declared.topology.TopoRefusal.{TopoRefusal}
use Rattle.dash_base.specs.declared.topology.TopoRefusal.TheVariants as topo
use Rattle.elf_load.specs.Refusal.{IsLoadable}
use Rattle.elf_load.specs.declared.memory_map.MemoryMap.{MemoryMap}
use Rattle.elf_load.specs.declared.refusal.LoadRefusal.{LoadRefusal}
use Rattle.elf_load.specs.declared.refusal.LoadRefusal.TheVariants.{Short, NotElf, NotClass32Little, NotRiscv, NotExec, Compressed, Reduced, HeaderSize, SegmentOutOfFile, FileSizeAboveMemory, SegmentOutOfMemory, Overlap, NoSegment, EntryNotExecutable, OutOfMemory}
use Rattle.round_run.specs.Finished.{status_of}
use Rattle.round_run.specs.declared.finished.Cause.{Cause}
use Rattle.std.specs.List.{AllByRecursion}
use Rattle.trace_text.specs.Fits.{FitsEvent}
use Rattle.dash_run.specs.CommandLine.{Request, Asks, AsksSeed, IsUsageError}
use Rattle.dash_run.specs.Generated.{IsGenerated}
use Rattle.dash_run.specs.Inputs.{NamedFile, IsFileOf, Inputs, IsTooLarge, AreGiven, AreThere, loads_of, IsReached, IsLoading}
use Rattle.dash_run.specs.Accepted.{IsMachine, IsRefusedTopology, IsRefused, config_of}
use Rattle.dash_run.specs.Ran.{Ran, no_run, IsRunOf}
use Rattle.dash_run.specs.Report.{report_of}
use Rattle.trace_text.specs.Spelling.{newline, hex}

-- the lines on standard error
unfoldable pub usage_line : List ℕ
usage_line =
    codes "dash: usage: dash run IMAGE [TOPOLOGY [--log] | CLUSTERS HARTS BUDGET [--log]] | dash gen SEED" ++ newline

unfoldable pub failed_line : List ℕ → List ℕ
failed_line name = codes "dash: " ++ (name ++ (codes ": read failed" ++ newline))

unfoldable pub large_line : NamedFile → ℕ → List ℕ
large_line file size =
    codes "dash: " ++ (file.name ++ (codes ": " ++ (decimal size ++ (codes " bytes, limit " ++ (decimal file.limit ++ newline)))))

abbrev pub topology_text : TopoRefusal → List ℕ
topology_text topo.Syntax = codes "syntax"
topology_text (topo.Missing k) = codes "missing " ++ key_name k
topology_text (topo.Unknown name) = codes "unknown " ++ name
topology_text (topo.Range k) = codes "range " ++ key_name k
topology_text (topo.NotPower k) = codes "not a power of two " ++ key_name k
topology_text topo.TooMuch = codes "too much"
topology_text topo.OutOfMemory = []

unfoldable pub topology_line : TopoRefusal → List ℕ
topology_line refusal = codes "dash: topology: " ++ topology_text refusal ++ newline

-- the refusal's number and its cause
abbrev pub refusal_text : LoadRefusal → List ℕ
refusal_text (Short at) = codes "1 short at " ++ decimal at
refusal_text NotElf = codes "2 not an ELF file"
refusal_text NotClass32Little = codes "3 not class 32 little endian"
refusal_text NotRiscv = codes "4 not for RISC-V"
refusal_text NotExec = codes "5 not an executable"
refusal_text Compressed = codes "6 compressed instructions"
refusal_text Reduced = codes "7 reduced registers"
refusal_text (HeaderSize size) = codes "8 header size " ++ decimal size
refusal_text (SegmentOutOfFile i) = codes "9 segment " ++ decimal i ++ codes " out of file"
refusal_text (FileSizeAboveMemory i) = codes "10 segment " ++ decimal i ++ codes " file size above memory size"
refusal_text (SegmentOutOfMemory i) = codes "11 segment " ++ decimal i ++ codes " out of memory"
refusal_text (Overlap i j) = codes "12 segments " ++ decimal i ++ codes " and " ++ decimal j ++ codes " overlap"
refusal_text NoSegment = codes "13 no segment"
refusal_text (EntryNotExecutable entry) = codes "14 entry " ++ hex entry ++ codes " not executable"
refusal_text OutOfMemory = []

unfoldable pub refusal_line : LoadRefusal → List ℕ
refusal_line refusal = codes "dash: image: " ++ refusal_text refusal ++ newline

-- the topology and the image of inputs are accepted, and a run of it ended with this exit status and report, with the log or without it; the numbers of a log that is printed are within the bounds of their types
pub record IsReported (with_log : Bool) (inputs : Inputs) (status : ℕ) (texts : List (List ℕ)) (ran : Ran) : Type 0 where
  pub machine : Topology
  pub map : MemoryMap
  pub is_machine : IsMachine inputs machine map
  pub accepted : IsLoadable inputs.image map
  pub cause : Cause
  pub run : IsRunOf (config_of inputs.image machine) ran cause
  pub is_status : status ≡ status_of cause
  pub is_report : texts ≡ report_of with_log (config_of inputs.image machine) run.finished.end status ran.log
  pub log_fits : with_log ≡ true → AllByRecursion FitsEvent ran.log

-- the line for a file that the host did not give. The counts are the host's failed loads, before and after.
pub data IsFaultLine (files : Option Files) (before after : ℕ) (file : NamedFile) : List ℕ → Type 0 where
  -- it couldn't be read
  failed : Rose before after → IsFaultLine files before after file (failed_line file.name)
  -- it is larger than its limit
  large : (size : ℕ) → IsTooLarge files file size → after ≡ before → IsFaultLine files before after file (large_line file size)

-- The output of a call: the loads that were made, an exit status, texts on one stream, each for a print, and what is left of a run, and why. The counts are the host's failed loads, before and after.
pub data IsOutput (words : List (List ℕ)) (files : Option Files) (before after : ℕ) : List Call → ℕ → Stream → List (List ℕ) → Ran → Type 0 where
  -- the words have no form that is served
  usage : IsUsageError words → after ≡ before → IsOutput words files before after [] 2 stream.Err (usage_line ∷ []) no_run
  -- a file was not given, and none behind it was asked for
  no_file : (q : Request) (file : NamedFile) (loaded : List Call) (text : List ℕ) → Asks words q → IsReached files q file loaded → IsFaultLine files before after file text
      → IsOutput words files before after loaded 5 stream.Err (text ∷ []) no_run
  -- the topology is refused
  bad_topology : (q : Request) (inputs : Inputs) (refusal : TopoRefusal) → Asks words q → AreGiven files q inputs → IsRefusedTopology inputs refusal → after ≡ before
      → IsOutput words files before after (loads_of q) 4 stream.Err (topology_line refusal ∷ []) no_run
  -- the image is refused
  refused : (q : Request) (inputs : Inputs) (refusal : LoadRefusal) → Asks words q → AreGiven files q inputs → IsRefused inputs refusal → after ≡ before
      → IsOutput words files before after (loads_of q) 3 stream.Err (refusal_line refusal ∷ []) no_run
  -- its run is reported
  reported : (q : Request) (inputs : Inputs) (status : ℕ) (texts : List (List ℕ)) (ran : Ran) → Asks words q → AreGiven files q inputs → IsReported q.log inputs status texts ran → after ≡ before
      → IsOutput words files before after (loads_of q) status stream.Out texts ran
  -- the run of a seed's workload is summed up
  generated : (seed : ℕ) (text : List ℕ) (ran : Ran) → AsksSeed words seed → IsGenerated seed text ran → after ≡ before
      → IsOutput words files before after [] 0 stream.Out (text ∷ []) ran

-- a count of a host's faults, what it had printed, or the calls that were made of it, before a call and after it
pub record Change (A : Type 0) : Type 0 where
  pub old : A
  pub new : A

-- texts one after another
abbrev pub joined : List (List ℕ) → List ℕ
joined texts = fold ◌++◌ [] texts

-- the loads of a call that asks for something: that of the image, or of all files; and none for a seed
pub data IsBegun (words : List (List ℕ)) : List Call → Type 0 where
  by_files : (q : Request) (loaded : List Call) → Asks words q → IsLoading q loaded → IsBegun words loaded
  by_seed : (seed : ℕ) → AsksSeed words seed → IsBegun words []

-- the loads that a call makes: these, or none for words without a form
pub data LoadsOf (words : List (List ℕ)) : List Call → Type 0 where
  no_load : IsUsageError words → LoadsOf words []
  some_loads : (loaded : List Call) → IsBegun words loaded → LoadsOf words loaded

-- the host's calls were the loads and then a print of each text
pub record PrintsAll (loaded : List Call) (to : Stream) (texts : List (List ℕ)) (calls : Change (Option (List Call))) : Type 0 where
  pub made : calls.new ≡ with_calls calls.old (loaded ++ map (print_on to) texts)

-- prints of the texts that stand before one, and last a print of that one, which failed
pub record BreakOff (to : Stream) (texts : List (List ℕ)) (made : List Call) : Type 0 where
  pub before : List (List ℕ)
  pub text : List ℕ
  pub after : List (List ℕ)
  pub split : texts ≡ before ++ text ∷ after
  pub made_is : made ≡ map (print_on to) before ++ failed_print_on to text ∷ []

-- the host's calls were the loads and then prints that broke off: nothing came after the one that failed
pub record PrintsPart (loaded : List Call) (to : Stream) (texts : List (List ℕ)) (calls : Change (Option (List Call))) : Type 0 where
  pub tried : List Call
  pub breaks_off : BreakOff to texts tried
  pub made : calls.new ≡ with_calls calls.old (loaded ++ tried)

-- how a call ended, with an exit status and what it left of a run
pub data Ends (words : List (List ℕ)) (files : Option Files) (loads prints : Change ℕ) (printed : Change (Option Printed)) (calls : Change (Option (List Call))) : ℕ → Ran → Type 0 where
  -- it printed its whole output
  printed_all : (loaded : List Call) (status : ℕ) (to : Stream) (texts : List (List ℕ)) (ran : Ran) → IsOutput words files loads.old loads.new loaded status to texts ran
      → prints.new ≡ prints.old → Follows (Appends to (joined texts)) printed.old printed.new → PrintsAll loaded to texts calls → Ends words files loads prints printed calls status ran
  -- a print failed, after a part of it
  print_failed : (loaded : List Call) (status : ℕ) (to : Stream) (texts : List (List ℕ)) (ran : Ran) → IsOutput words files loads.old loads.new loaded status to texts ran
      → Rose prints.old prints.new → Follows (AppendsPart to (joined texts)) printed.old printed.new → PrintsPart loaded to texts calls → Ends words files loads prints printed calls 5 ran
  -- there was no memory: it printed nothing
  out_of_memory : (loaded : List Call) → IsBegun words loaded
      → prints.new ≡ prints.old → printed.new ≡ printed.old → calls.new ≡ with_calls calls.old loaded → Ends words files loads prints printed calls 6 no_run

-- the exit statuses of a run
abbrev pub IsRunStatus : ℕ → Type 0
IsRunStatus status = (status ≡ 0) ⊎ (status ≡ 10) ⊎ (status ≡ 11) ⊎ (status ≡ 12)

-- the words ask for a topology that is refused
pub record NamesBadTopology (words : List (List ℕ)) (files : Option Files) : Type 0 where
  pub request : Request
  pub asked : Asks words request
  pub inputs : Inputs
  pub given : AreGiven files request inputs
  pub refusal : TopoRefusal
  pub refused : IsRefusedTopology inputs refusal

-- the words ask for an image that is refused
pub record NamesRefused (words : List (List ℕ)) (files : Option Files) : Type 0 where
  pub request : Request
  pub asked : Asks words request
  pub inputs : Inputs
  pub given : AreGiven files request inputs
  pub refusal : LoadRefusal
  pub refused : IsRefused inputs refusal

-- the words ask for an image whose run ends with this status, and leaves this
pub record NamesReport (words : List (List ℕ)) (files : Option Files) (status : ℕ) (ran : Ran) : Type 0 where
  pub request : Request
  pub asked : Asks words request
  pub inputs : Inputs
  pub given : AreGiven files request inputs
  pub texts : List (List ℕ)
  pub reported : IsReported request.log inputs status texts ran

-- the words ask for a seed, and the run of its workload leaves this
pub record NamesSummary (words : List (List ℕ)) (ran : Ran) : Type 0 where
  pub seed : ℕ
  pub asked : AsksSeed words seed
  pub text : List ℕ
  pub generated : IsGenerated seed text ran

-- the words ask for a run that ends with this status, and leaves this
pub data NamesRun (words : List (List ℕ)) (files : Option Files) : ℕ → Ran → Type 0 where
  runs_image : (status : ℕ) (ran : Ran) → NamesReport words files status ran → NamesRun words files status ran
  runs_seed : (ran : Ran) → NamesSummary words ran → NamesRun words files 0 ran

-- the words name a file that is larger than its limit
pub record NamesLarge (words : List (List ℕ)) (files : Option Files) : Type 0 where
  pub request : Request
  pub asked : Asks words request
  pub file : NamedFile
  pub named : IsFileOf request file
  pub size : ℕ
  pub large : IsTooLarge files file size

-- the causes of status 5
abbrev pub IsFault : List (List ℕ) → Option Files → Change ℕ → Change ℕ → Type 0
IsFault words files loads prints = Rose loads.old loads.new ⊎ Rose prints.old prints.new ⊎ NamesLarge words files

-- a count stood still, below its last value
pub record IsSteady (count : Change ℕ) : Type 0 where
  pub same : count.new ≡ count.old
  pub below : count.old < last_count

-- a call for a request, in which no fault was counted, of a host that tells its files
pub record IsFaultless (words : List (List ℕ)) (files : Option Files) (loads prints : Change ℕ) (q : Request) (file_at : Files) : Type 0 where
  pub asked : Asks words q
  pub told : files ≡ Some file_at
  pub loads_steady : IsSteady loads
  pub prints_steady : IsSteady prints

-- such a call, and these inputs are there
pub record IsClean (words : List (List ℕ)) (files : Option Files) (loads prints : Change ℕ) (q : Request) (inputs : Inputs) : Type 0 where
  pub file_at : Files
  pub faultless : IsFaultless words files loads prints q file_at
  pub there : AreThere file_at q inputs
