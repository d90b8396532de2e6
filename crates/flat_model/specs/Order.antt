-- Happens-before among the records of a list, which it names by their positions.
use Rattle.std.specs.Prelude.{◌≡◌, ◌⊎◌, ◌<◌, ℕ, List, Some, slice_get}
use Rattle.dash_event.specs.declared.access.Access.{Access}
use Rattle.dash_event.specs.declared.step_record.StepRecord.{StepRecord}
use Rattle.dash_event.specs.declared.step_record.StepRecord.TheVariants as step
use Rattle.flat_model.specs.Labels.{IsRelease, IsAcquire}
use Rattle.dash_event.specs.Effects.{hart_of}

-- the record at a position
abbrev pub IsAt : List StepRecord → ℕ → StepRecord → Type 0
IsAt rs i r = slice_get rs i ≡ Some r

-- the access at a position
abbrev pub IsAccessAt : List StepRecord → ℕ → Access → Type 0
IsAccessAt rs i a = IsAt rs i (step.Access a)

-- the records at two positions are of one hart
pub record AreOfOneHart (rs : List StepRecord) (i j : ℕ) : Type 0 where
  pub first : StepRecord
  pub second : StepRecord
  pub first_at : IsAt rs i first
  pub second_at : IsAt rs j second
  pub same_hart : hart_of first ≡ hart_of second

-- the first is a release, and the second an acquire of the same word
pub record AreReleaseAndAcquire (rs : List StepRecord) (i j : ℕ) : Type 0 where
  pub first : Access
  pub second : Access
  pub first_at : IsAccessAt rs i first
  pub second_at : IsAccessAt rs j second
  pub release : IsRelease first
  pub acquire : IsAcquire second
  pub same_word : first.word ≡ second.word

-- a position is directly before a later one where both are of one hart, or where they are a release and an acquire of the same word
pub record IsDirectlyBefore (rs : List StepRecord) (i j : ℕ) : Type 0 where
  pub later : i < j
  pub joined : AreOfOneHart rs i j ⊎ AreReleaseAndAcquire rs i j

-- happens-before is this relation, closed under chaining
pub data HappensBefore (rs : List StepRecord) : ℕ → ℕ → Type 0 where
  directly : {i j : ℕ} → IsDirectlyBefore rs i j → HappensBefore rs i j
  chained : {i k : ℕ} (j : ℕ) → HappensBefore rs i j → HappensBefore rs j k → HappensBefore rs i k
