-- What one step changes in the lists in which a program keeps the state, and what it finds in them before.
use Rattle.std.specs.Prelude.{◌≡◌, ◌<◌, ℕ, ◌+◌, ◌*◌, ◌==◌, Bool, true, false, not, List, length, slice_get, slice_index, slice_index_or, slice_set, Option, Some, None}
use Rattle.dash_base.specs.declared.ops.AmoOp.{AmoOp}
use Rattle.dash_base.specs.declared.ops.AmoOp.TheVariants.{Sc}
use Rattle.dash_base.specs.declared.topology.Topology.{Topology}
use Rattle.elf_load.specs.Image.{ImageView}
use Rattle.dash_event.specs.declared.access.Access.{Access}
use Rattle.dash_event.specs.declared.step_record.StepRecord.{StepRecord}
use Rattle.dash_event.specs.declared.step_record.StepRecord.TheVariants as step
use Rattle.hart_core.specs.HartState.{HartState}
use Rattle.hart_core.specs.Access.{IsInMemory, IsLockWord}
use Rattle.hart_core.specs.Meaning.{Needs, Does}
use Rattle.dash_base.specs.declared.need.Need.{Need}
use Rattle.dash_base.specs.declared.need.Need.TheVariants.{Ask}
use Rattle.flat_model.specs.State.{FlatState}
use Rattle.dash_event.specs.Offered.{offered}
use Rattle.flat_model.specs.Step.{content, record_of, reservation_after}
use Rattle.dash_event.specs.Effects.{answer_of, is_of_memory, word_after, lock_after}
use Rattle.flat_model.specs.Driven.{is_reserved, succeeds_on}
use Rattle.flat_model.specs.Represents.{MachineView, Represents}

-- whether a need asks for a lock word that is taken
abbrev pub is_blocked : FlatState → Need → Bool
is_blocked s (Ask word value) = not (s.locks word.0 == 0)
is_blocked s need = false

-- whether an operation is no SC, or the word is reserved
abbrev pub can_succeed : AmoOp → Option ℕ → ℕ → Bool
can_succeed Sc reserved word = is_reserved reserved word
can_succeed amo reserved word = true

-- an access is of a word of memory, or of a lock word, as its operation says
pub record FitsAccess (t : Topology) (a : Access) : Type 0 where
  pub in_memory : is_of_memory a.op ≡ true → IsInMemory t a.word.0 4
  pub in_locks : is_of_memory a.op ≡ false → IsLockWord t a.word.0

abbrev pub FitsRecord : Topology → StepRecord → Type 0
FitsRecord t (step.Access a) = FitsAccess t a
FitsRecord t r = Unit {0}

-- the hart at a place did its next instruction with this answer
pub record IsHartAfter (image : ImageView) (t : Topology) (old : List HartState) (i answer : ℕ) (new : List HartState) : Type 0 where
  pub before : HartState
  pub after : HartState
  pub was : slice_get old i ≡ Some before
  pub now : new ≡ slice_set old i after
  pub does : (need : Need) → Needs image t before need → Does image t before need answer after

-- reservations after a record
pub record AreReserved (r : StepRecord) (old new : List (Option ℕ)) : Type 0 where
  pub count : length new ≡ length old
  pub each : (k : ℕ) → k < length old
      → slice_index_or new k None ≡ reservation_after k r (slice_index_or old k None)

-- words of memory after a record
pub record AreWritten (t : Topology) (r : StepRecord) (old new : List ℕ) : Type 0 where
  pub count : length new ≡ length old
  pub each : (i : ℕ) → i < length old
      → slice_index new i ≡ word_after (t.base + 4 * i) r (slice_index old i)

-- lock words after a record
pub record AreLocked (t : Topology) (r : StepRecord) (old new : List ℕ) : Type 0 where
  pub count : length new ≡ length old
  pub each : (i : ℕ) → i < length old
      → slice_index new i ≡ lock_after (t.base + t.memory + 4 * i) r (slice_index old i)

-- all lists after a record of hart h
pub record IsCarriedOut (image : ImageView) (t : Topology) (h : ℕ) (r : StepRecord) (old new : MachineView) : Type 0 where
  pub hart : IsHartAfter image t old.harts h (answer_of r) new.harts
  pub reservations : AreReserved r old.reservations new.reservations
  pub memory : AreWritten t r old.memory new.memory
  pub locks : AreLocked t r old.locks new.locks

-- hart h can do its next instruction, and then has this need, pc and record
pub record IsDue (image : ImageView) (t : Topology) (m : MachineView) (h : ℕ) (need : Need) (pc : ℕ) (r : StepRecord) : Type 0 where
  pub hart : HartState
  pub is_hart : slice_get m.harts h ≡ Some hart
  pub needs : Needs image t hart need
  pub pc_is : pc ≡ hart.pc
  pub possible : (s : FlatState) → Represents t m s → is_blocked s need ≡ false
  pub recorded : (s : FlatState) → Represents t m s
      → r ≡ record_of h need (offered h (hart.retired + 1) need (content s need) (succeeds_on s h need))
