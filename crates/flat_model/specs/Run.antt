-- Sequential runs within the budgets: sequential consistency, since the steps of all harts stand in one list, each hart's in program order, and each reads what the steps before it left.
use Rattle.std.specs.Prelude.{◌≡◌, ◌≢◌, ◌⊎◌, ◌<◌, ℕ, false, List, [], ◌∷◌}
use Rattle.dash_base.specs.declared.id.WordAddr.{WordAddr}
use Rattle.dash_base.specs.declared.topology.Topology.{Topology}
use Rattle.elf_load.specs.Image.{ImageView}
use Rattle.dash_event.specs.declared.step_record.StepRecord.{StepRecord}
use Rattle.hart_core.specs.HartState.{can_go_on}
use Rattle.hart_core.specs.Meaning.{Needs}
use Rattle.dash_base.specs.Places.{hart_count}
use Rattle.dash_base.specs.declared.need.Need.TheVariants.{Ask}
use Rattle.flat_model.specs.State.{FlatState, opening_state}
use Rattle.flat_model.specs.Step.{IsFlatStep}
use Rattle.dash_event.specs.Effects.{hart_of}

-- steps one after another, with these records
abbrev pub AreFlatSteps : ImageView → Topology → FlatState → List StepRecord → FlatState → Type 0
AreFlatSteps image t old [] new = new ≡ old
AreFlatSteps image t old (r ∷ rs) new =
    (mid : FlatState) × IsFlatStep image t old (hart_of r).0 r mid × AreFlatSteps image t mid rs new

-- such steps lead from the opening state to a state
abbrev pub RunsTo : ImageView → Topology → List StepRecord → FlatState → Type 0
RunsTo image t rs s = AreFlatSteps image t (opening_state image t) rs s

-- a sequential run within the budgets, which may stop anywhere
pub record IsSequentialRun (image : ImageView) (t : Topology) (rs : List StepRecord) : Type 0 where
  pub final : FlatState
  pub runs : RunsTo image t rs final

-- hart h could go on, but its next instruction asks for a lock word that is not 0
pub record IsBlocked (image : ImageView) (t : Topology) (s : FlatState) (h : ℕ) : Type 0 where
  pub word : WordAddr
  pub value : ℕ
  pub asks : Needs image t (s.harts h) (Ask word value)
  pub taken : s.locks word.0 ≢ 0

-- hart h has ended, has spent its budget, or waits
abbrev pub IsFlatStopped : ImageView → Topology → FlatState → ℕ → Type 0
IsFlatStopped image t s h = (can_go_on t (s.harts h) ≡ false) ⊎ IsBlocked image t s h

-- a run at whose end each hart has ended, has spent its budget, or waits
pub record IsCompleteSequentialRun (image : ImageView) (t : Topology) (rs : List StepRecord) (final : FlatState) : Type 0 where
  pub runs : RunsTo image t rs final
  pub stopped : (h : ℕ) → h < hart_count t → IsFlatStopped image t final h
