-- What the last access of a kind left: one induction for the bytes of memory and for lock words.
use Rattle.std.proofs.Common.{◌≡◌, ◌⊎◌, inl, inr, ◌<◌, ℕ, zero, suc, List, [], ◌∷◌, length, Some, refl, ◌∙◌, ap, subst, arith}
use Rattle.dash_base.specs.declared.topology.Topology.{Topology}
use Rattle.elf_load.specs.Image.{ImageView}
use Rattle.dash_event.specs.declared.access.Access.{Access}
use Rattle.dash_event.specs.declared.step_record.StepRecord.{StepRecord}
use Rattle.dash_event.specs.declared.step_record.StepRecord.TheVariants as step
use Rattle.flat_model.specs.State.{FlatState}
use Rattle.flat_model.specs.Step.{IsFlatStep}
use Rattle.dash_event.specs.Effects.{hart_of}
use Rattle.flat_model.specs.Run.{AreFlatSteps}
use Rattle.flat_model.specs.Order.{IsAt, IsAccessAt}
use Rattle.flat_model.specs.LastBefore.{LastBefore, NoneBefore}

-- a step is an access with a property, which leaves this value
pub record Leaves (P : Access → Type 0) (V : Type 0) (left : (a : Access) → P a → V) (r : StepRecord) (value : V) : Type 0 where
  pub access : Access
  pub is : r ≡ step.Access access
  pub has : P access
  pub value_is : value ≡ left access has

-- a step is no access with a property, and keeps the value
pub record Keeps (P : Access → Type 0) (V : Type 0) (r : StepRecord) (old new : V) : Type 0 where
  pub none : (b : Access) → r ≡ step.Access b → ¬ P b
  pub same : new ≡ old

-- the value before position i: what the last access with the property left, or the first one
pub record IsLeft (P : Access → Type 0) (V : Type 0) (left : (a : Access) → P a → V) (rs : List StepRecord) (i : ℕ) (value : V) : Type 0 where
  pub access : LastBefore rs i P
  pub value_is : value ≡ left access.access access.has

pub record IsFirst (P : Access → Type 0) (V : Type 0) (rs : List StepRecord) (i : ℕ) (first value : V) : Type 0 where
  pub none : NoneBefore rs i P
  pub same : value ≡ first

-- the state before position i, and the step there
pub record StepAt (image : ImageView) (t : Topology) (r : StepRecord) : Type 0 where
  pub old : FlatState
  pub new : FlatState
  pub is_step : IsFlatStep image t old (hart_of r).0 r new

pub step_at : (image : ImageView) (t : Topology) (old : FlatState) (rs : List StepRecord) (new : FlatState) → AreFlatSteps image t old rs new
    → (i : ℕ) (r : StepRecord) → IsAt rs i r → StepAt image t r
step_at image t old [] new steps i r at = absurd cc
step_at image t old (x ∷ rs) new steps zero r at =
    let same : x ≡ r = cc in record { old = old; new = steps.0; is_step = subst (λ y. IsFlatStep image t old (hart_of y).0 y steps.0) same steps.1 }
step_at image t old (x ∷ rs) new steps (suc i) r at = step_at image t steps.0 rs new steps.2 i r at

module _ (image : ImageView) (t : Topology) (P : Access → Type 0) (V : Type 0) (left : (a : Access) → P a → V) (value : FlatState → V)
    (each : (old : FlatState) (r : StepRecord) (new : FlatState) → IsFlatStep image t old (hart_of r).0 r new → Leaves P V left r (value new) ⊎ Keeps P V r (value old) (value new)) where
  -- none after the head of a list is none after it in the whole list
  none_shifted : (r : StepRecord) (rs : List StepRecord) (i : ℕ) → ((b : Access) → r ≡ step.Access b → ¬ P b)
      → ((j : ℕ) (b : Access) → IsAccessAt rs j b → P b → ¬ (j < i)) → (j : ℕ) (b : Access) → IsAccessAt (r ∷ rs) j b → P b → ¬ (j < suc i)
  none_shifted r rs i head tail zero b at has before = let is : r ≡ step.Access b = cc in head b is has
  none_shifted r rs i head tail (suc j) b at has before = tail j b at has (omega arith)

  last_shifted : (r : StepRecord) (rs : List StepRecord) (i : ℕ) (l : LastBefore rs i P) (j : ℕ) (b : Access) → IsAccessAt (r ∷ rs) j b → P b → suc l.at < j → ¬ (j < suc i)
  last_shifted r rs i l zero b at has after before = absurd (omega arith)
  last_shifted r rs i l (suc j) b at has after before = l.last j b at has (omega arith) (omega arith)

  shifted : (r : StepRecord) (rs : List StepRecord) (i : ℕ) → LastBefore rs i P → LastBefore (r ∷ rs) (suc i) P
  shifted r rs i l = record {
    at = suc l.at;
    access = l.access;
    is_at = l.is_at;
    before = omega (arith, l.before);
    has = l.has;
    last = last_shifted r rs i l;
  }

  after_head : (r : StepRecord) (rs : List StepRecord) (i : ℕ) → NoneBefore rs i P → (j : ℕ) (b : Access) → IsAccessAt (r ∷ rs) j b → P b → zero < j → ¬ (j < suc i)
  after_head r rs i n zero b at has after before = absurd (omega arith)
  after_head r rs i n (suc j) b at has after before = n.none j b at has (omega arith)

  -- the head is the last, where none after it has the property
  head_is_last : (r : StepRecord) (rs : List StepRecord) (i : ℕ) (a : Access) → r ≡ step.Access a → P a → NoneBefore rs i P → LastBefore (r ∷ rs) (suc i) P
  head_is_last r rs i a is has none = record {
    at = zero;
    access = a;
    is_at = ap Some is;
    before = omega arith;
    has = has;
    last = after_head r rs i none;
  }

  -- one step before the others
  with_head : (old : FlatState) (r : StepRecord) (mid : FlatState) (rs : List StepRecord) (i : ℕ) (now : V)
      → Leaves P V left r (value mid) ⊎ Keeps P V r (value old) (value mid)
      → IsLeft P V left rs i now ⊎ IsFirst P V rs i (value mid) now
      → IsLeft P V left (r ∷ rs) (suc i) now ⊎ IsFirst P V (r ∷ rs) (suc i) (value old) now
  unfolding shifted head_is_last
  with_head old r mid rs i now head (inl l) = inl (record { access = shifted r rs i l.access; value_is = l.value_is })
  with_head old r mid rs i now (inl l) (inr f) =
      inl (record { access = head_is_last r rs i l.access l.is l.has f.none; value_is = f.same ∙ l.value_is })
  with_head old r mid rs i now (inr k) (inr f) =
      inr (record { none = record { none = none_shifted r rs i k.none f.none.none }; same = f.same ∙ k.same })

  -- the step at a position, and the value before it
  pub at_position : (old : FlatState) (rs : List StepRecord) (new : FlatState) → AreFlatSteps image t old rs new → (i : ℕ) (r : StepRecord) → IsAt rs i r
      → (s : StepAt image t r) × (IsLeft P V left rs i (value s.old) ⊎ IsFirst P V rs i (value old) (value s.old))
  at_position old [] new steps i r at = absurd cc
  at_position old (x ∷ rs) new steps zero r at =
      let same : x ≡ r = cc in (
        record { old = old; new = steps.0; is_step = subst (λ y. IsFlatStep image t old (hart_of y).0 y steps.0) same steps.1 },
        inr (record { none = record { none = λ j b at has before. absurd (omega (arith, before)) }; same = refl }),
      )
  at_position old (x ∷ rs) new steps (suc i) r at =
      let rest = at_position steps.0 rs new steps.2 i r at in
      (rest.0, with_head old x steps.0 rs i (value rest.0.old) (each old x steps.0 steps.1) rest.1)

  -- the value after all steps of a list
  pub at_end : (old : FlatState) (rs : List StepRecord) (new : FlatState) → AreFlatSteps image t old rs new
      → IsLeft P V left rs (length rs) (value new) ⊎ IsFirst P V rs (length rs) (value old) (value new)
  at_end old [] new steps = inr (record { none = record { none = λ j b at has before. (cc at) }; same = ap value steps })
  at_end old (x ∷ rs) new steps =
      with_head old x steps.0 rs (length rs) (value new) (each old x steps.0 steps.1) (at_end steps.0 rs new steps.2)
