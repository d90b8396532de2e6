-- Runs of the machine of caches and messages on the generated workload, and what they leave.
use Rattle.std.specs.Prelude.{◌≡◌, ◌<◌, ◌^◌, ℕ, min, List, length, slice_index, sum}
use Rattle.dash_base.specs.Places.{line_of}
use Rattle.dash_base.specs.Words.{byte_of_word}
use Rattle.dash_base.specs.declared.id.WordAddr.{WordAddr}
use Rattle.dash_base.specs.declared.topology.Topology.{Topology}
use Rattle.dash_event.specs.declared.event.Event.{Event}
use Rattle.dash_model.specs.Complete.{IsComplete, IsStatus, hart_at}
use Rattle.dash_model.specs.Config.{Config}
use Rattle.dash_model.specs.LineContent.{word_at}
use Rattle.dash_model.specs.Log.{commits_of}
use Rattle.dash_model.specs.Machine.{Machine, Reaches}
use Rattle.workload_gen.specs.Program.{image_of}
use Rattle.workload_gen.specs.RunLaws.{IsDone}
use Rattle.workload_gen.specs.Summary.{retired_in_all, summary_text, totals}
use Rattle.workload_gen.specs.Workload.{IsMachine, counter_word, counters, harts, total}
use Rattle.workload_runs.specs.Counters.{counters_in, last_stored}

-- the workload of a seed on its machine
abbrev pub workload : ℕ → Topology → Config
workload seed t = record { image = image_of seed; top = t }

-- a complete run of it, which leads to this state
pub record IsWorkloadRun (seed : ℕ) (t : Topology) (log : List Event) (m : Machine) : Type 0 where
  pub is_seed : seed < 2 ^ 32
  pub machine : IsMachine t
  pub reaches : Reaches (workload seed t) log m
  pub complete : IsComplete (workload seed t) m

-- in every complete run each hart exited with code 0, having retired 7,507 instructions
abbrev pub HartsAreDoneInRuns : Type 0
HartsAreDoneInRuns = (seed : ℕ) (t : Topology) (log : List Event) (m : Machine) → IsWorkloadRun seed t log m → (h : ℕ) → h < harts → IsDone (hart_at (workload seed t) h m).core

-- so its exit status is 0
abbrev pub StatusesAreZero : Type 0
StatusesAreZero = (seed : ℕ) (t : Topology) (log : List Event) (m : Machine) (status : ℕ) → IsWorkloadRun seed t log m → IsStatus (workload seed t) m status → status ≡ 0

-- the address of counter k's word, as an address of a word
abbrev pub counter_at : ℕ → WordAddr
counter_at k = record { 0 = counter_word k }

-- the last store of counter k's word in the log wrote the counter's total, or there was none and the total is 0; and each byte of the word at the last version of its line is the total's
pub record IsTotal (seed : ℕ) (t : Topology) (log : List Event) (k : ℕ) : Type 0 where
  pub stored : last_stored (counter_word k) log ≡ total seed k
  pub content : (x : ℕ) → x < 4 → byte_of_word x (word_at (image_of seed) log (line_of t (counter_at k)) (length (commits_of log (line_of t (counter_at k)))) (counter_word k)) ≡ byte_of_word x (total seed k)

-- in every complete run that is so for each counter
abbrev pub ContentsAreLastStored : Type 0
ContentsAreLastStored = (seed : ℕ) (t : Topology) (log : List Event) (m : Machine) → IsWorkloadRun seed t log m → (k : ℕ) → k < counters → IsTotal seed t log k

-- for each hart of a machine how many instructions it retired
pub record AreRetired (w : Config) (m : Machine) (retired : List ℕ) : Type 0 where
  pub count : length retired ≡ harts
  pub each : (h : ℕ) → h < harts → slice_index retired h ≡ (hart_at w h m).core.retired

-- these added up, which stands still at the greatest number of 32 bits
abbrev pub added_up : List ℕ → ℕ
added_up retired = min (sum retired) 4294967295

-- the summary of a run, from what its harts retired and from the counters of its log
abbrev pub run_summary : ℕ → List ℕ → List Event → List ℕ
run_summary seed retired log = summary_text seed (length retired) (added_up retired) (counters_in log)

-- the summary that the workload comes to by itself
abbrev pub whole_summary : ℕ → List ℕ
whole_summary seed = summary_text seed harts retired_in_all (totals seed)

-- that of every complete run is this one
abbrev pub SummariesAreOfTheTotals : Type 0
SummariesAreOfTheTotals = (seed : ℕ) (t : Topology) (log : List Event) (m : Machine) (retired : List ℕ) → IsWorkloadRun seed t log m → AreRetired (workload seed t) m retired
    → run_summary seed retired log ≡ whole_summary seed
