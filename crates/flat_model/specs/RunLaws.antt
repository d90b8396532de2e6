-- Laws of steps and of sequential runs. Each is the contract of a function of `laws`.
use Rattle.std.specs.Prelude.{◌≡◌, ◌<◌, ◌≤◌, ℕ, ◌+◌, ◌==◌, List, [], ◌∷◌, ◌++◌, take, count_by}
use Rattle.dash_base.specs.declared.topology.Topology.{Topology}
use Rattle.elf_load.specs.Image.{ImageView}
use Rattle.dash_event.specs.declared.access.Access.{Access}
use Rattle.dash_event.specs.declared.step_record.StepRecord.{StepRecord}
use Rattle.dash_base.specs.Places.{hart_count}
use Rattle.flat_model.specs.State.{FlatState}
use Rattle.flat_model.specs.Step.{IsFlatStep}
use Rattle.dash_event.specs.Effects.{hart_of}
use Rattle.flat_model.specs.Run.{RunsTo, IsSequentialRun, IsCompleteSequentialRun}
use Rattle.flat_model.specs.InOrder.{IsRunInOrder}
use Rattle.flat_model.specs.Driven.{IsDriven}
use Rattle.flat_model.specs.Order.{IsAt, IsAccessAt}

-- a list of records leads to one state
abbrev pub RunsAreDetermined : Type 0
RunsAreDetermined =
    (image : ImageView) (t : Topology) (rs : List StepRecord) (a b : FlatState) → RunsTo image t rs a → RunsTo image t rs b → a ≡ b

-- a sequential run may stop anywhere: what it begins with is one
abbrev pub RunsMayStop : Type 0
RunsMayStop =
    (image : ImageView) (t : Topology) (rs more : List StepRecord) → IsSequentialRun image t (rs ++ more) → IsSequentialRun image t rs

-- no step follows a complete run
abbrev pub CompleteRunsEnd : Type 0
CompleteRunsEnd =
    (image : ImageView) (t : Topology) (rs : List StepRecord) (final : FlatState) → IsCompleteSequentialRun image t rs final
    → (h : ℕ) (r : StepRecord) (new : FlatState) → ¬ IsFlatStep image t final h r new

-- a run with a step after it is a run
abbrev pub RunsGoOn : Type 0
RunsGoOn =
    (image : ImageView) (t : Topology) (rs : List StepRecord) (old : FlatState) → RunsTo image t rs old
    → (h : ℕ) (r : StepRecord) (new : FlatState) → IsFlatStep image t old h r new → RunsTo image t (rs ++ r ∷ []) new

-- the record of a step is of its hart
abbrev pub RecordsAreOfTheirHart : Type 0
RecordsAreOfTheirHart =
    (image : ImageView) (t : Topology) (old : FlatState) (h : ℕ) (r : StepRecord) (new : FlatState)
    → IsFlatStep image t old h r new → (hart_of r).0 ≡ h

-- a run that takes harts in order is a sequential run
abbrev pub RunsInOrderAreRuns : Type 0
RunsInOrderAreRuns =
    (image : ImageView) (t : Topology) (hs : List ℕ) (rs : List StepRecord) (s : FlatState) → IsRunInOrder image t hs rs s → RunsTo image t rs s

-- and there is one for each order
abbrev pub RunsInOrderAreOne : Type 0
RunsInOrderAreOne =
    (image : ImageView) (t : Topology) (hs : List ℕ) (rs rs' : List StepRecord) (s s' : FlatState)
    → IsRunInOrder image t hs rs s → IsRunInOrder image t hs rs' s' → (rs ≡ rs') × (s ≡ s')

-- a driven run, which grows at its end, is a run in order, which is read from the front
abbrev pub DrivenRunsAreInOrder : Type 0
DrivenRunsAreInOrder =
    (image : ImageView) (t : Topology) (hs : List ℕ) (rs : List StepRecord) (s : FlatState) → IsDriven image t hs rs s → IsRunInOrder image t hs rs s

-- so it is a sequential run
abbrev pub DrivenRunsAreRuns : Type 0
DrivenRunsAreRuns =
    (image : ImageView) (t : Topology) (hs : List ℕ) (rs : List StepRecord) (s : FlatState) → IsDriven image t hs rs s → RunsTo image t rs s

-- and there is one for each order
abbrev pub DrivenRunsAreOne : Type 0
DrivenRunsAreOne =
    (image : ImageView) (t : Topology) (hs : List ℕ) (rs rs' : List StepRecord) (s s' : FlatState)
    → IsDriven image t hs rs s → IsDriven image t hs rs' s' → (rs ≡ rs') × (s ≡ s')

-- each step of a sequential run is of a hart that the machine has
abbrev pub HartsAreInRange : Type 0
HartsAreInRange =
    (image : ImageView) (t : Topology) (rs : List StepRecord) → IsSequentialRun image t rs
    → (i : ℕ) (r : StepRecord) → IsAt rs i r → (hart_of r).0 < hart_count t

-- no hart retires more than its budget
abbrev pub RetiredIsWithinBudget : Type 0
RetiredIsWithinBudget =
    (image : ImageView) (t : Topology) (rs : List StepRecord) (s : FlatState) → RunsTo image t rs s
    → (h : ℕ) → (s.harts h).retired ≤ t.budget

-- the accesses of a hart stand in program order: their numbers rise
abbrev pub NumbersRise : Type 0
NumbersRise =
    (image : ImageView) (t : Topology) (rs : List StepRecord) → IsSequentialRun image t rs
    → (i j : ℕ) (a b : Access) → IsAccessAt rs i a → IsAccessAt rs j b → i < j → a.hart ≡ b.hart → a.number < b.number

-- the number of an access is its place among the records of its hart, from 1: each hart's steps are there once, in program order
abbrev pub NumbersCount : Type 0
NumbersCount =
    (image : ImageView) (t : Topology) (rs : List StepRecord) → IsSequentialRun image t rs
    → (i : ℕ) (a : Access) → IsAccessAt rs i a → a.number ≡ count_by (λ r. a.hart.0 == (hart_of r).0) (take i rs) + 1
