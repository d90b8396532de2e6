-- What a lock word of the workload tells. It is the contract of a function of `laws`.
use Rattle.std.specs.Prelude.{◌≡◌, ◌<◌, ◌^◌, ℕ, List, length}
use Rattle.dash_base.specs.declared.id.HartId.{HartId}
use Rattle.dash_base.specs.declared.topology.Topology.{Topology}
use Rattle.dash_event.specs.declared.step_record.StepRecord.{StepRecord}
use Rattle.flat_model.specs.Run.{RunsTo}
use Rattle.flat_model.specs.State.{FlatState}
use Rattle.workload_gen.specs.Guarded.{IsHeldBefore}
use Rattle.workload_gen.specs.Program.{image_of}
use Rattle.workload_gen.specs.Workload.{IsMachine, counters, lock_word}

-- at the end of the records a hart holds counter k's lock word: it asked for it, and has not freed it
pub record IsHeldAtEnd (rs : List StepRecord) (k : ℕ) : Type 0 where
  pub hart : HartId
  pub held : IsHeldBefore rs (length rs) hart k

-- its value then: 1 where a hart holds it, and 0 where none does
pub record TellsItsHolder (rs : List StepRecord) (k value : ℕ) : Type 0 where
  pub held : IsHeldAtEnd rs k → value ≡ 1
  pub free : ¬ IsHeldAtEnd rs k → value ≡ 0

-- each lock word is so at the end of each sequential run, complete or not
abbrev pub LocksAreHeld : Type 0
LocksAreHeld = (seed : ℕ) (t : Topology) (rs : List StepRecord) (s : FlatState) → seed < 2 ^ 32 → IsMachine t → RunsTo (image_of seed) t rs s
    → (k : ℕ) → k < counters → TellsItsHolder rs k (s.locks (lock_word k))
