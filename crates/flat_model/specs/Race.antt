-- Races, and images without one.
use Rattle.std.specs.Prelude.{◌≡◌, ◌≢◌, ◌⊎◌, ◌<◌, ℕ, true, List, IsSome}
use Rattle.dash_base.specs.Words.{has_byte}
use Rattle.dash_base.specs.declared.topology.Topology.{Topology}
use Rattle.elf_load.specs.Image.{ImageView}
use Rattle.dash_event.specs.declared.access.Access.{Access}
use Rattle.dash_event.specs.declared.step_record.StepRecord.{StepRecord}
use Rattle.flat_model.specs.Labels.{IsOrdinary}
use Rattle.flat_model.specs.Order.{IsAccessAt, HappensBefore}
use Rattle.flat_model.specs.Run.{IsSequentialRun}

-- both masks have a byte of a word
pub record MasksMeet (a b : Access) : Type 0 where
  pub byte : ℕ
  pub in_word : byte < 4
  pub in_first : has_byte a.mask byte ≡ true
  pub in_second : has_byte b.mask byte ≡ true

-- the accesses at two positions race
pub record IsRace (rs : List StepRecord) (i j : ℕ) : Type 0 where
  pub first : Access
  pub second : Access
  pub first_at : IsAccessAt rs i first
  pub second_at : IsAccessAt rs j second
  pub harts_differ : first.hart ≢ second.hart
  pub same_word : first.word ≡ second.word
  pub masks_meet : MasksMeet first second
  pub one_writes : IsSome first.written ⊎ IsSome second.written
  pub one_is_ordinary : IsOrdinary first ⊎ IsOrdinary second
  pub not_before : ¬ HappensBefore rs i j
  pub not_after : ¬ HappensBefore rs j i

-- a list of records in which no two accesses race
abbrev pub IsRaceFree : List StepRecord → Type 0
IsRaceFree rs = (i j : ℕ) → ¬ IsRace rs i j

-- no sequential run of the image within the budgets has a race
abbrev pub IsProperlyLabelled : ImageView → Topology → Type 0
IsProperlyLabelled image t = (rs : List StepRecord) → IsSequentialRun image t rs → IsRaceFree rs
