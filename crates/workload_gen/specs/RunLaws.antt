-- What sequential runs of the workload come to. Each is the contract of a function of `laws`.
use Rattle.std.specs.Prelude.{◌≡◌, ◌⊎◌, ◌<◌, ◌^◌, ℕ, true, List, []}
use Rattle.dash_base.specs.declared.end.End.TheVariants.{Exited}
use Rattle.dash_base.specs.declared.topology.Topology.{Topology}
use Rattle.dash_event.specs.declared.step_record.StepRecord.{StepRecord}
use Rattle.flat_model.specs.Race.{IsProperlyLabelled}
use Rattle.flat_model.specs.Run.{IsCompleteSequentialRun, RunsTo}
use Rattle.flat_model.specs.State.{FlatState}
use Rattle.hart_core.specs.HartState.{HartState, can_go_on}
use Rattle.workload_gen.specs.LastStores.{last_of, stores_among}
use Rattle.workload_gen.specs.Program.{image_of}
use Rattle.workload_gen.specs.Workload.{IsMachine, counter_word, counters, harts, total}

-- a hart exited with code 0, and retired 16 instructions before its turns, 16 in each of 468 turns, and 3 after them
pub record IsDone (h : HartState) : Type 0 where
  pub end : h.end ≡ Exited 0
  pub retired : h.retired ≡ 7507

-- a hart goes on or has exited so: none traps, and none spends its budget
abbrev pub HartsOnlyExit : Type 0
HartsOnlyExit = (seed : ℕ) (t : Topology) (rs : List StepRecord) (s : FlatState) → seed < 2 ^ 32 → IsMachine t → RunsTo (image_of seed) t rs s
    → (h : ℕ) → h < harts → (can_go_on t (s.harts h) ≡ true) ⊎ IsDone (s.harts h)

-- where a run is complete all have
abbrev pub HartsAreDone : Type 0
HartsAreDone = (seed : ℕ) (t : Topology) (rs : List StepRecord) (s : FlatState) → seed < 2 ^ 32 → IsMachine t → IsCompleteSequentialRun (image_of seed) t rs s
    → (h : ℕ) → h < harts → IsDone (s.harts h)

-- nothing is put on the console
abbrev pub NothingIsPut : Type 0
NothingIsPut = (seed : ℕ) (t : Topology) (rs : List StepRecord) (s : FlatState) → seed < 2 ^ 32 → IsMachine t → RunsTo (image_of seed) t rs s → s.console ≡ []

-- after a complete run each counter has its total
abbrev pub CountersComeToTotals : Type 0
CountersComeToTotals = (seed : ℕ) (t : Topology) (rs : List StepRecord) (s : FlatState) → seed < 2 ^ 32 → IsMachine t → IsCompleteSequentialRun (image_of seed) t rs s
    → (k : ℕ) → k < counters → s.memory (counter_word k) ≡ total seed k

-- and that is what the last store of it wrote, or 0 where there is none
abbrev pub LastStoresWriteTotals : Type 0
LastStoresWriteTotals = (seed : ℕ) (t : Topology) (rs : List StepRecord) (s : FlatState) → seed < 2 ^ 32 → IsMachine t → IsCompleteSequentialRun (image_of seed) t rs s
    → (k : ℕ) → k < counters → last_of (stores_among (counter_word k) rs) ≡ total seed k

-- no sequential run has a data race
abbrev pub WorkloadsAreProperlyLabelled : Type 0
WorkloadsAreProperlyLabelled = (seed : ℕ) (t : Topology) → seed < 2 ^ 32 → IsMachine t → IsProperlyLabelled (image_of seed) t
