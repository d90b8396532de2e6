-- Runs that take harts in a given order, in which an SC succeeds wherever it can.
use Rattle.std.specs.Prelude.{◌≡◌, ℕ, List, [], ◌∷◌, ◌++◌, Some, IsSome}
use Rattle.dash_base.specs.declared.topology.Topology.{Topology}
use Rattle.elf_load.specs.Image.{ImageView}
use Rattle.dash_event.specs.declared.access.Op.TheVariants as op
use Rattle.dash_event.specs.declared.step_record.StepRecord.{StepRecord}
use Rattle.dash_event.specs.declared.step_record.StepRecord.TheVariants as step
use Rattle.flat_model.specs.State.{FlatState, opening_state}
use Rattle.flat_model.specs.Step.{IsFlatStep}
use Rattle.flat_model.specs.Run.{IsFlatStopped}

-- an SC whose hart has reserved the word succeeds
abbrev pub SucceedsWhereItCan : FlatState → StepRecord → Type 0
SucceedsWhereItCan s (step.Access a) = a.op ≡ op.Cond → s.reservations a.hart.0 ≡ Some a.word.0 → IsSome a.written
SucceedsWhereItCan s r = Unit {0}

-- the turn of hart h: it has stopped and is passed over, or does its next instruction
abbrev pub IsTurn : ImageView → Topology → FlatState → ℕ → List StepRecord → FlatState → Type 0
IsTurn image t old h [] new = IsFlatStopped image t old h × (new ≡ old)
IsTurn image t old h (r ∷ []) new = IsFlatStep image t old h r new × SucceedsWhereItCan old r
IsTurn image t old h (r ∷ q ∷ rs) new = ⊥

-- the turns of the harts of a list, one after another
abbrev pub AreTurns : ImageView → Topology → FlatState → List ℕ → List StepRecord → FlatState → Type 0
AreTurns image t old [] rs new = (rs ≡ []) × (new ≡ old)
AreTurns image t old (h ∷ hs) rs new =
    (turn : List StepRecord) × (rest : List StepRecord) × (mid : FlatState)
    × (rs ≡ turn ++ rest) × IsTurn image t old h turn mid × AreTurns image t mid hs rest new

-- the run that takes the harts of a list in order
abbrev pub IsRunInOrder : ImageView → Topology → List ℕ → List StepRecord → FlatState → Type 0
IsRunInOrder image t hs rs s = AreTurns image t (opening_state image t) hs rs s
