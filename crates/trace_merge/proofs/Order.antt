-- What happens-before leaves behind: between two harts stands a release of the first.
use Rattle.std.proofs.Common.{◌≡◌, ◌⊎◌, inl, inr, ◌<◌, ◌≤◌, ℕ, List, Some, sym, ◌∙◌, ap, arith}
use Rattle.dash_base.specs.declared.id.HartId.{HartId}
use Rattle.dash_event.specs.declared.access.Access.{Access}
use Rattle.dash_event.specs.declared.step_record.StepRecord.{StepRecord}
use Rattle.dash_event.specs.declared.step_record.StepRecord.TheVariants as step
use Rattle.flat_model.specs.Labels.{IsRelease}
use Rattle.dash_event.specs.Effects.{hart_of}
use Rattle.flat_model.specs.Order.{IsAt, IsAccessAt, AreOfOneHart, AreReleaseAndAcquire, HappensBefore, directly, chained}
use Rattle.flat_model.proofs.LawsOffered.{goes_forward}

-- a release of a hart stands at position i or later, and before position j
pub record IsReleasedBetween (rs : List StepRecord) (i j : ℕ) (hart : HartId) : Type 0 where
  pub at : ℕ
  pub release : Access
  pub is_at : IsAccessAt rs at release
  pub from : i ≤ at
  pub before : at < j
  pub of_hart : release.hart ≡ hart
  pub is_release : IsRelease release

-- two positions are of one hart, or parted by a release of the first one's hart
abbrev Parted : List StepRecord → ℕ → ℕ → StepRecord → StepRecord → Type 0
Parted rs i j x y = (hart_of x ≡ hart_of y) ⊎ IsReleasedBetween rs i j (hart_of x)

one_record : (rs : List StepRecord) (i : ℕ) (x y : StepRecord) → IsAt rs i x → IsAt rs i y → x ≡ y
one_record rs i x y at_x at_y = let same : Some x ≡ Some y = sym at_x ∙ at_y in cc

has_end : (rs : List StepRecord) (i j : ℕ) → HappensBefore rs i j → (z : StepRecord) × IsAt rs j z
has_end rs i j (directly d) = end_of d.joined
  where
    end_of : AreOfOneHart rs i j ⊎ AreReleaseAndAcquire rs i j → (z : StepRecord) × IsAt rs j z
    end_of (inl one) = (one.second, one.second_at)
    end_of (inr sync) = (step.Access sync.second, sync.second_at)
has_end rs i k (chained j first second) = has_end rs j k second

parted_directly : (rs : List StepRecord) (i j : ℕ) (x y : StepRecord) → IsAt rs i x → IsAt rs j y → i < j → AreOfOneHart rs i j ⊎ AreReleaseAndAcquire rs i j → Parted rs i j x y
parted_directly rs i j x y at_x at_y later (inl one) =
    inl (ap hart_of (one_record rs i x one.first at_x one.first_at) ∙ one.same_hart ∙ ap hart_of (one_record rs j one.second y one.second_at at_y))
parted_directly rs i j x y at_x at_y later (inr sync) =
    inr (record { at = i; release = sync.first; is_at = sync.first_at; from = omega arith; before = later; of_hart = ap hart_of (one_record rs i (step.Access sync.first) x sync.first_at at_x); is_release = sync.release })

joined : (rs : List StepRecord) (i j k : ℕ) (x z y : StepRecord) → i < j → j < k → Parted rs i j x z → Parted rs j k z y → Parted rs i k x y
joined rs i j k x z y a b (inl same) (inl same') = inl (same ∙ same')
joined rs i j k x z y a b (inl same) (inr r) =
    inr (record { at = r.at; release = r.release; is_at = r.is_at; from = (let f = r.from in omega arith); before = r.before; of_hart = r.of_hart ∙ sym same; is_release = r.is_release })
joined rs i j k x z y a b (inr r) second =
    inr (record { at = r.at; release = r.release; is_at = r.is_at; from = r.from; before = (let f = r.before in omega arith); of_hart = r.of_hart; is_release = r.is_release })

pub parted : (rs : List StepRecord) (i j : ℕ) → HappensBefore rs i j → (x y : StepRecord) → IsAt rs i x → IsAt rs j y → Parted rs i j x y
parted rs i j (directly d) x y at_x at_y = parted_directly rs i j x y at_x at_y d.later d.joined
parted rs i k (chained j first second) x y at_x at_y =
    let mid = has_end rs i j first in
    joined rs i j k x mid.0 y (goes_forward rs i j first).0 (goes_forward rs j k second).0 (parted rs i j first x mid.0 at_x mid.1) (parted rs j k second mid.0 y mid.1 at_y)
