-- Runs in which it is said which hart is next: an SC succeeds wherever it may, and a stopped hart is passed over.
use Rattle.std.specs.Prelude.{◌≡◌, ◌%◌, ℕ, Bool, true, false, ◌==◌, List, [], ◌∷◌, ◌++◌, map, Option, Some, None}
use Rattle.std.specs.List.{range_with_len}
use Rattle.dash_base.specs.declared.ops.AmoOp.TheVariants.{Sc}
use Rattle.dash_base.specs.declared.topology.Topology.{Topology}
use Rattle.elf_load.specs.Image.{ImageView}
use Rattle.dash_event.specs.declared.step_record.StepRecord.{StepRecord}
use Rattle.dash_base.specs.declared.need.Need.{Need}
use Rattle.dash_base.specs.declared.need.Need.TheVariants.{Rmw}
use Rattle.flat_model.specs.State.{FlatState, opening_state}
use Rattle.flat_model.specs.Step.{IsFlatStep}
use Rattle.flat_model.specs.Run.{IsFlatStopped}

-- whether a reservation is of a word
abbrev pub is_reserved : Option ℕ → ℕ → Bool
is_reserved None word = false
is_reserved (Some reserved) word = reserved == word

-- whether an SC succeeds on this state where it does so wherever it may
abbrev pub succeeds_on : FlatState → ℕ → Need → Bool
succeeds_on s h (Rmw word Sc operand labels) = is_reserved (s.reservations h) word.0
succeeds_on s h need = true

-- a flat step in which an SC succeeds wherever it may
pub record IsEagerStep (image : ImageView) (t : Topology) (old : FlatState) (h : ℕ) (r : StepRecord) (new : FlatState) : Type 0 where
  pub step : IsFlatStep image t old h r new
  pub eager : step.succeeds ≡ succeeds_on old h step.need

-- the listed harts in order, from the opening state: each does its next instruction, or is passed over where it has stopped
pub data IsDriven (image : ImageView) (t : Topology) : List ℕ → List StepRecord → FlatState → Type 0 where
  opens : IsDriven image t [] [] (opening_state image t)
  passes : {hs : List ℕ} {rs : List StepRecord} {s : FlatState} (h : ℕ)
      → IsDriven image t hs rs s → IsFlatStopped image t s h → IsDriven image t (hs ++ h ∷ []) rs s
  steps : {hs : List ℕ} {rs : List StepRecord} {s : FlatState} (h : ℕ) (r : StepRecord) (new : FlatState)
      → IsDriven image t hs rs s → IsEagerStep image t s h r new → IsDriven image t (hs ++ h ∷ []) (rs ++ r ∷ []) new

-- the first so many turns of harts that take turns in the order of their numbers, again and again
abbrev pub rotation : ℕ → ℕ → List ℕ
rotation count turns = map (λ turn. turn % count) (range_with_len 0 turns)
