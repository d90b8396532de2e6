-- Laws of what accesses read and write: memory, lock words and reservations. Each is the contract of a function of `laws`.
use Rattle.std.specs.Prelude.{◌≡◌, ◌<◌, ℕ, ◌^◌, true, false, List, length, Some, None, IsSome, Option, IsNone}
use Rattle.dash_base.specs.Words.{has_byte, byte_of_word}
use Rattle.dash_base.specs.declared.id.WordAddr.{WordAddr}
use Rattle.dash_base.specs.declared.topology.Topology.{Topology}
use Rattle.elf_load.specs.Image.{ImageView}
use Rattle.dash_event.specs.declared.access.Access.{Access}
use Rattle.dash_event.specs.declared.access.Op.{Op}
use Rattle.dash_event.specs.declared.access.Op.TheVariants as op
use Rattle.dash_event.specs.declared.access.Seen.TheVariants.{Nothing}
use Rattle.dash_event.specs.declared.step_record.StepRecord.{StepRecord}
use Rattle.dash_event.specs.declared.step_record.StepRecord.TheVariants as step
use Rattle.dash_event.specs.Offered.{all_bytes, bytes_under}
use Rattle.flat_model.specs.State.{FlatState}
use Rattle.flat_model.specs.Step.{IsFlatStep}
use Rattle.dash_event.specs.Effects.{is_of_memory}
use Rattle.flat_model.specs.Run.{RunsTo, IsSequentialRun}
use Rattle.flat_model.specs.Order.{IsAccessAt}
use Rattle.flat_model.specs.LastBefore.{IsByteBefore, IsLockBefore}
use Rattle.flat_model.specs.Reserved.{IsReserved}

-- which of `read` and `written` an operation has: loads only read, stores only write, an SC does not read and may fail to write, and any other does both
abbrev pub HasValues : Op → Option ℕ → Option ℕ → Type 0
HasValues op.Load read written = IsSome read × IsNone written
HasValues op.Reserve read written = IsSome read × IsNone written
HasValues op.Store read written = IsNone read × IsSome written
HasValues op.Cond read written = IsNone read
HasValues kind read written = IsSome read × IsSome written

-- each access has the values of its operation, and isn't told which content it saw
abbrev pub AccessesHaveTheirValues : Type 0
AccessesHaveTheirValues =
    (image : ImageView) (t : Topology) (old : FlatState) (h : ℕ) (a : Access) (new : FlatState)
    → IsFlatStep image t old h (step.Access a) new → HasValues a.op a.read a.written × (a.seen ≡ Nothing)

-- a word of 32 bits is all of its bytes, so whole words are read as they stand
abbrev pub WordsAreTheirBytes : Type 0
WordsAreTheirBytes = (word : ℕ) → word < 2 ^ 32 → bytes_under all_bytes word ≡ word

-- an SC that is done may fail in its place
abbrev pub CondsMayFail : Type 0
CondsMayFail =
    (image : ImageView) (t : Topology) (old : FlatState) (h : ℕ) (a : Access) (new : FlatState)
    → IsFlatStep image t old h (step.Access a) new → a.op ≡ op.Cond
    → (other : FlatState) × IsFlatStep image t old h (step.Access (record a { written = None })) other

-- an SC that succeeds has its word reserved
abbrev pub CondsAreReserved : Type 0
CondsAreReserved =
    (image : ImageView) (t : Topology) (rs : List StepRecord) → IsSequentialRun image t rs
    → (i : ℕ) (a : Access) → IsAccessAt rs i a → a.op ≡ op.Cond → IsSome a.written → IsReserved rs i a

-- an SC that has its word reserved can succeed
abbrev pub CondsMaySucceed : Type 0
CondsMaySucceed =
    (image : ImageView) (t : Topology) (rs : List StepRecord) (old : FlatState) → RunsTo image t rs old
    → (h : ℕ) (a : Access) (new : FlatState) → IsFlatStep image t old h (step.Access a) new → a.op ≡ op.Cond → IsReserved rs (length rs) a
    → (value : ℕ) × (other : FlatState) × IsFlatStep image t old h (step.Access (record a { written = Some value })) other

-- each byte that an access reads of memory is what the last write of it in the list wrote, or the opening one
abbrev pub ReadsSeeLastWrites : Type 0
ReadsSeeLastWrites =
    (image : ImageView) (t : Topology) (rs : List StepRecord) → IsSequentialRun image t rs
    → (i : ℕ) (a : Access) (value : ℕ) → IsAccessAt rs i a → is_of_memory a.op ≡ true → a.read ≡ Some value
    → (k : ℕ) → k < 4 → has_byte a.mask k ≡ true → IsByteBefore image rs i a.word.0 k (byte_of_word k value)

-- each byte of memory at the end of a run is what the last write of it in the list wrote, or the opening one
abbrev pub MemoryHasLastWrites : Type 0
MemoryHasLastWrites =
    (image : ImageView) (t : Topology) (rs : List StepRecord) (s : FlatState) → RunsTo image t rs s
    → (address k : ℕ) → k < 4 → IsByteBefore image rs (length rs) address k (byte_of_word k (s.memory address))

-- each lock word at the end of a run has what the last access of it wrote, or 0
abbrev pub LocksHaveLastWrites : Type 0
LocksHaveLastWrites =
    (image : ImageView) (t : Topology) (rs : List StepRecord) (s : FlatState) → RunsTo image t rs s
    → (address : ℕ) → IsLockBefore rs (length rs) address (Some (s.locks address))

-- each access of a lock word reads what the one before it wrote, and the first reads 0
abbrev pub LockAccessesAreChained : Type 0
LockAccessesAreChained =
    (image : ImageView) (t : Topology) (rs : List StepRecord) → IsSequentialRun image t rs
    → (i : ℕ) (a : Access) → IsAccessAt rs i a → is_of_memory a.op ≡ false → IsLockBefore rs i a.word.0 a.read

-- an Ask reads 0
abbrev pub AsksReadZero : Type 0
AsksReadZero =
    (image : ImageView) (t : Topology) (rs : List StepRecord) → IsSequentialRun image t rs
    → (i : ℕ) (a : Access) → IsAccessAt rs i a → a.op ≡ op.Ask → a.read ≡ Some 0

-- an Unlock of the word at an address stands between two positions
pub record IsUnlockedBetween (rs : List StepRecord) (i j : ℕ) (word : WordAddr) : Type 0 where
  pub at : ℕ
  pub unlock : Access
  pub is_at : IsAccessAt rs at unlock
  pub after : i < at
  pub before : at < j
  pub is_unlock : unlock.op ≡ op.Unlock
  pub same_word : unlock.word ≡ word

-- a lock word excludes: between two Asks of it stands an Unlock
abbrev pub LocksExclude : Type 0
LocksExclude =
    (image : ImageView) (t : Topology) (rs : List StepRecord) → IsSequentialRun image t rs
    → (i j : ℕ) (a b : Access) → IsAccessAt rs i a → IsAccessAt rs j b → i < j
    → a.op ≡ op.Ask → b.op ≡ op.Ask → a.word ≡ b.word → IsUnlockedBetween rs i j a.word
