-- Laws of happens-before and of races. Each is the contract of a function of `laws`.
use Rattle.std.specs.Prelude.{◌≡◌, ◌≢◌, ◌⊎◌, ◌<◌, ℕ, List, [], ◌∷◌, length, IsSome}
use Rattle.dash_base.specs.declared.topology.Topology.{Topology}
use Rattle.elf_load.specs.Image.{ImageView}
use Rattle.dash_event.specs.declared.access.Access.{Access}
use Rattle.dash_event.specs.declared.step_record.StepRecord.{StepRecord}
use Rattle.dash_event.specs.declared.step_record.StepRecord.TheVariants as step
use Rattle.dash_base.specs.Places.{hart_count}
use Rattle.flat_model.specs.Labels.{IsOrdinary}
use Rattle.flat_model.specs.Order.{IsAccessAt, AreOfOneHart, AreReleaseAndAcquire, HappensBefore}
use Rattle.flat_model.specs.Race.{MasksMeet, IsRace, IsProperlyLabelled}

-- happens-before goes forward, and within the list
abbrev pub HappensBeforeGoesForward : Type 0
HappensBeforeGoesForward =
    (rs : List StepRecord) (i j : ℕ) → HappensBefore rs i j → (i < j) × (j < length rs)

-- happens-before is transitive
abbrev pub HappensBeforeIsTransitive : Type 0
HappensBeforeIsTransitive =
    (rs : List StepRecord) (i j k : ℕ) → HappensBefore rs i j → HappensBefore rs j k → HappensBefore rs i k

-- what stands before a release in its hart happens before what stands after an acquire of the same word in that one's hart
abbrev pub ReleasesOrder : Type 0
ReleasesOrder =
    (rs : List StepRecord) (i r q j : ℕ) → i < r → AreOfOneHart rs i r → r < q → AreReleaseAndAcquire rs r q → q < j → AreOfOneHart rs q j
    → HappensBefore rs i j

-- the accesses at two positions conflict: different harts mean a common byte of one word, and one of them writes
pub record AreInConflict (rs : List StepRecord) (i j : ℕ) : Type 0 where
  pub first : Access
  pub second : Access
  pub first_at : IsAccessAt rs i first
  pub second_at : IsAccessAt rs j second
  pub harts_differ : first.hart ≢ second.hart
  pub same_word : first.word ≡ second.word
  pub common_byte : MasksMeet first second
  pub one_writes : IsSome first.written ⊎ IsSome second.written

-- a race is a conflict at two positions
abbrev pub RacesAreConflicts : Type 0
RacesAreConflicts =
    (rs : List StepRecord) (i j : ℕ) → IsRace rs i j → (i ≢ j) × AreInConflict rs i j

-- a race is one from either side
abbrev pub RacesAreMutual : Type 0
RacesAreMutual = (rs : List StepRecord) (i j : ℕ) → IsRace rs i j → IsRace rs j i

-- two accesses that are alone in a list race, where they conflict and one is ordinary
abbrev pub LoneConflictsRace : Type 0
LoneConflictsRace =
    (a b : Access) → AreInConflict (step.Access a ∷ step.Access b ∷ []) 0 1 → IsOrdinary a ⊎ IsOrdinary b
    → IsRace (step.Access a ∷ step.Access b ∷ []) 0 1

-- every image is properly labelled for a machine of one hart
abbrev pub OneHartIsProperlyLabelled : Type 0
OneHartIsProperlyLabelled =
    (image : ImageView) (t : Topology) → hart_count t ≡ 1 → IsProperlyLabelled image t
