-- Steps and runs by themselves: they lead to one state, may stop anywhere, and end where all harts have stopped; and an SC may fail.
use Rattle.std.proofs.Common.{◌≡◌, inl, inr, ℕ, ◌+◌, Bool, true, false, List, [], ◌∷◌, ◌++◌, Some, None, refl, sym, ◌∙◌, ap, subst}
use Rattle.std.specs.Prelude.{unwrap_or}
use Rattle.dash_base.specs.declared.ops.AmoOp.TheVariants.{Sc}
use Rattle.dash_base.specs.declared.topology.Topology.{Topology}
use Rattle.elf_load.specs.Image.{ImageView}
use Rattle.dash_event.specs.declared.access.Access.{Access}
use Rattle.dash_event.specs.declared.access.Op.TheVariants as op
use Rattle.dash_event.specs.declared.step_record.StepRecord.{StepRecord}
use Rattle.dash_event.specs.declared.step_record.StepRecord.TheVariants as step
use Rattle.hart_core.specs.HartState.{can_go_on}
use Rattle.hart_core.specs.Meaning.{Does}
use Rattle.dash_base.specs.declared.need.Need.{Need}
use Rattle.dash_base.specs.declared.need.Need.TheVariants.{Load, Store, Rmw, Ask, Unlock}
use Rattle.hart_core.proofs.LawsOffered.{one_need, needs_of, any_answer, one_after}
use Rattle.dash_event.specs.Offered.{offered}
use Rattle.flat_model.specs.State.{FlatState}
use Rattle.flat_model.specs.Step.{IsPossible, content, record_of, flat_state_after, IsFlatStep}
use Rattle.dash_event.specs.Effects.{hart_of, answer_of}
use Rattle.flat_model.specs.Run.{AreFlatSteps, IsFlatStopped, IsCompleteSequentialRun}
use Rattle.flat_model.proofs.Offers.{is_offered, hart_of-record_of}

-- a record makes one state of a state
pub one_new : (image : ImageView) (t : Topology) (old : FlatState) (h : ℕ) (r : StepRecord) (a b : FlatState)
    → IsFlatStep image t old h r a → IsFlatStep image t old h r b → a ≡ b
one_new image t old h r a b s s' =
    let needs = needs_of image t (old.harts h) s.next s.need _ s.does in
    let needs' = needs_of image t (old.harts h) s'.next s'.need _ s'.does in
    let need : s.need ≡ s'.need = one_need image t (old.harts h) s.need s'.need needs needs' in
    let does : Does image t (old.harts h) s'.need (answer_of r) s.next = subst (λ n. Does image t (old.harts h) n (answer_of r) s.next) need s.does in
    let next : s.next ≡ s'.next = one_after image t (old.harts h) s.next s'.next s'.need _ does s'.does in
    s.after ∙ ap (flat_state_after old r) next ∙ sym s'.after

pub one_final : (image : ImageView) (t : Topology) (old : FlatState) (rs : List StepRecord) (a b : FlatState)
    → AreFlatSteps image t old rs a → AreFlatSteps image t old rs b → a ≡ b
one_final image t old [] a b steps steps' = steps ∙ sym steps'
one_final image t old (r ∷ rs) a b steps steps' =
    let mid : steps'.0 ≡ steps.0 = one_new image t old (hart_of r).0 r steps'.0 steps.0 steps'.1 steps.1 in
    one_final image t steps.0 rs a b steps.2 (subst (λ s. AreFlatSteps image t s rs b) mid steps'.2)

-- the first steps of a list are steps
pub first_steps : (image : ImageView) (t : Topology) (old : FlatState) (rs more : List StepRecord) (new : FlatState)
    → AreFlatSteps image t old (rs ++ more) new → (mid : FlatState) × AreFlatSteps image t old rs mid
first_steps image t old [] more new steps = (old, refl)
first_steps image t old (r ∷ rs) more new steps =
    let rest = first_steps image t steps.0 rs more new steps.2 in (rest.0, (steps.0, steps.1, rest.1))

-- the record of a step is of its hart
pub of_its_hart : (image : ImageView) (t : Topology) (old : FlatState) (h : ℕ) (r : StepRecord) (new : FlatState)
    → IsFlatStep image t old h r new → (hart_of r).0 ≡ h
of_its_hart image t old h r new s =
    ap (λ x. (hart_of x).0) s.recorded ∙ hart_of-record_of h ((old.harts h).retired + 1) s.need _ s.succeeds

-- steps and one more
pub one_more_step : (image : ImageView) (t : Topology) (old : FlatState) (rs : List StepRecord) (mid : FlatState) → AreFlatSteps image t old rs mid
    → (h : ℕ) (r : StepRecord) (new : FlatState) → IsFlatStep image t mid h r new → AreFlatSteps image t old (rs ++ r ∷ []) new
one_more_step image t old [] mid steps h r new s =
    let same : IsFlatStep image t old h r new = subst (λ x. IsFlatStep image t x h r new) steps s in
    (new, subst (λ g. IsFlatStep image t old g r new) (sym (of_its_hart image t old h r new same)) same, refl)
one_more_step image t old (x ∷ rs) mid steps h r new s =
    (steps.0, steps.1, one_more_step image t steps.0 rs mid steps.2 h r new s)

-- the same access of an SC that fails
record Fails (s : FlatState) (h n : ℕ) (need : Need) (a : Access) : Type 0 where
  possible : IsPossible s h need false
  is : offered h n need (content s need) false ≡ Some (record a { written = None })

fails : (s : FlatState) (h n : ℕ) (need : Need) (ok : Bool) (a : Access) → offered h n need (content s need) ok ≡ Some a → a.op ≡ op.Cond → Fails s h n need a
fails s h n (Load w m l true) ok a is cond_op = absurd (let kind : op.Reserve ≡ a.op = ap (λ o. (unwrap_or o a).op) is in cc)
fails s h n (Load w m l false) ok a is cond_op = absurd (let kind : op.Load ≡ a.op = ap (λ o. (unwrap_or o a).op) is in cc)
fails s h n (Store w m x) ok a is cond_op = absurd (let kind : op.Store ≡ a.op = ap (λ o. (unwrap_or o a).op) is in cc)
fails s h n (Rmw w Sc x l) ok a is cond_op = record { possible = tt; is = ap (λ o. Some (record (unwrap_or o a) { written = None })) is }
fails s h n (Rmw w amo x l) ok a is cond_op = absurd (let kind : op.Amo ≡ a.op = ap (λ o. (unwrap_or o a).op) is in cc)
fails s h n (Ask w x) ok a is cond_op = absurd (let kind : op.Ask ≡ a.op = ap (λ o. (unwrap_or o a).op) is in cc)
fails s h n (Unlock w) ok a is cond_op = absurd (let kind : op.Unlock ≡ a.op = ap (λ o. (unwrap_or o a).op) is in cc)
fails s h n _ ok a is cond_op = absurd cc

pub cond_may_fail : (image : ImageView) (t : Topology) (old : FlatState) (h : ℕ) (a : Access) (new : FlatState)
    → IsFlatStep image t old h (step.Access a) new → a.op ≡ op.Cond
    → (other : FlatState) × IsFlatStep image t old h (step.Access (record a { written = None })) other
cond_may_fail image t old h a new s cond_op =
    let f = fails old h ((old.harts h).retired + 1) s.need s.succeeds a (is_offered h s.need _ a s.recorded) cond_op in
    let r : StepRecord = step.Access (record a { written = None }) in
    let k = any_answer image t (old.harts h) s.next s.need _ (answer_of r) s.does in (
      flat_state_after old r k.0,
      record {
        in_range = s.in_range;
        need = s.need;
        succeeds = false;
        possible = f.possible;
        recorded = ap (record_of h s.need) (sym f.is);
        next = k.0;
        does = k.1;
        after = refl;
      },
    )

-- a hart that rests, or that waits, does nothing
pub no_step_of : (image : ImageView) (t : Topology) (old : FlatState) (h : ℕ) (r : StepRecord) (new : FlatState)
    → IsFlatStopped image t old h → ¬ IsFlatStep image t old h r new
no_step_of image t old h r new (inl rests) s = let goes : can_go_on t (old.harts h) ≡ true = s.does.goes in cc
no_step_of image t old h r new (inr w) s =
    let needs = needs_of image t (old.harts h) s.next s.need _ s.does in
    let need : s.need ≡ Ask w.word w.value = one_need image t (old.harts h) s.need (Ask w.word w.value) needs w.asks in
    w.taken (subst (λ n. IsPossible old h n s.succeeds) need s.possible)

pub no_step_after : (image : ImageView) (t : Topology) (rs : List StepRecord) (final : FlatState) → IsCompleteSequentialRun image t rs final
    → (h : ℕ) (r : StepRecord) (new : FlatState) → ¬ IsFlatStep image t final h r new
no_step_after image t rs final complete h r new s = no_step_of image t final h r new (complete.stopped h s.in_range) s
