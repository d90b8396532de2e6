-- Driven runs, which grow at their end, are runs in order, which are read from the front.
use Rattle.std.proofs.Common.{◌≡◌, ℕ, ◌+◌, Bool, true, false, List, [], ◌∷◌, ◌++◌, append_assoc, append-nil, Option, Some, refl, sym, ◌∙◌, ap, subst, eq-eqb}
use Rattle.dash_base.specs.declared.ops.AmoOp.TheVariants.{Sc}
use Rattle.dash_base.specs.declared.topology.Topology.{Topology}
use Rattle.elf_load.specs.Image.{ImageView}
use Rattle.dash_event.specs.declared.step_record.StepRecord.{StepRecord}
use Rattle.dash_base.specs.declared.need.Need.{Need}
use Rattle.dash_base.specs.declared.need.Need.TheVariants.{Load, Store, Rmw, Ask, Unlock}
use Rattle.dash_event.specs.Offered.{offered}
use Rattle.flat_model.specs.State.{FlatState, opening_state}
use Rattle.flat_model.specs.Step.{record_of, content, IsFlatStep}
use Rattle.flat_model.specs.Run.{RunsTo}
use Rattle.flat_model.specs.InOrder.{SucceedsWhereItCan, IsTurn, AreTurns, IsRunInOrder}
use Rattle.flat_model.specs.Driven.{is_reserved, succeeds_on, IsEagerStep, IsDriven, opens, passes, steps}
use Rattle.hart_core.proofs.LawsOffered.{one_need, needs_of}
use Rattle.flat_model.proofs.Steps.{one_new}
use Rattle.flat_model.proofs.InOrder.{one_record, turns_are_steps, turns_are_one}

-- turns, and the turn of one more hart
one_more_turn : (image : ImageView) (t : Topology) (old : FlatState) (hs : List ℕ) (rs : List StepRecord) (mid : FlatState) → AreTurns image t old hs rs mid
    → (h : ℕ) (turn : List StepRecord) (new : FlatState) → IsTurn image t mid h turn new → AreTurns image t old (hs ++ h ∷ []) (rs ++ turn) new
one_more_turn image t old [] rs mid turns h turn new is =
    (turn, [], new, ap (λ x. x ++ turn) turns.0 ∙ sym (append-nil turn), subst (λ s. IsTurn image t s h turn new) turns.1 is, (refl, refl))
one_more_turn image t old (g ∷ hs) rs mid turns h turn new is =
    let more = one_more_turn image t turns.2 hs turns.1 mid turns.5 h turn new is in
    (turns.0, turns.1 ++ turn, turns.2, ap (λ x. x ++ turn) turns.3 ∙ append_assoc turns.0 turns.1 turn, turns.4, more)

-- what is reserved succeeds
reserved-is_reserved : (reserved : Option ℕ) (word : ℕ) → reserved ≡ Some word → is_reserved reserved word ≡ true
reserved-is_reserved reserved word is = ap (λ o. is_reserved o word) is ∙ eq-eqb word word refl

-- an SC that succeeds wherever it may does so wherever it can
can_succeed : (s : FlatState) (h n : ℕ) (need : Need) (old : ℕ) (ok : Bool) → ok ≡ succeeds_on s h need
    → SucceedsWhereItCan s (record_of h need (offered h n need old ok))
can_succeed s h n (Rmw w Sc x l) old true eager = λ kind reserved. refl
can_succeed s h n (Rmw w Sc x l) old false eager = λ kind reserved. absurd (let no : false ≡ true = eager ∙ reserved-is_reserved (s.reservations h) w.0 reserved in cc)
can_succeed s h n (Rmw w amo x l) old ok eager = λ kind reserved. absurd cc
can_succeed s h n (Load w m l true) old ok eager = λ kind reserved. absurd cc
can_succeed s h n (Load w m l false) old ok eager = λ kind reserved. absurd cc
can_succeed s h n (Store w m x) old ok eager = λ kind reserved. absurd cc
can_succeed s h n (Ask w x) old ok eager = λ kind reserved. absurd cc
can_succeed s h n (Unlock w) old ok eager = λ kind reserved. absurd cc
can_succeed s h n need old ok eager = tt

eager_step_can : (image : ImageView) (t : Topology) (old : FlatState) (h : ℕ) (r : StepRecord) (new : FlatState)
    → IsEagerStep image t old h r new → SucceedsWhereItCan old r
eager_step_can image t old h r new e =
    subst (SucceedsWhereItCan old) (sym e.step.recorded)
    (can_succeed old h ((old.harts h).retired + 1) e.step.need (content old e.step.need) e.step.succeeds e.eager)

pub driven_in_order : (image : ImageView) (t : Topology) (hs : List ℕ) (rs : List StepRecord) (s : FlatState) → IsDriven image t hs rs s → IsRunInOrder image t hs rs s
driven_in_order image t _ _ _ opens = (refl, refl)
driven_in_order image t _ _ _ (passes {hs} {rs} {s} h driven idle) =
    subst (λ x. AreTurns image t (opening_state image t) (hs ++ h ∷ []) x s) (append-nil rs)
    (one_more_turn image t (opening_state image t) hs rs s (driven_in_order image t hs rs s driven) h [] s (idle, refl))
driven_in_order image t _ _ _ (steps {hs} {rs} {s} h r new driven does) =
    one_more_turn image t (opening_state image t) hs rs s (driven_in_order image t hs rs s driven) h (r ∷ []) new
    (does.step, eager_step_can image t s h r new does)

pub driven_run : (image : ImageView) (t : Topology) (hs : List ℕ) (rs : List StepRecord) (s : FlatState) → IsDriven image t hs rs s → RunsTo image t rs s
driven_run image t hs rs s driven = turns_are_steps image t (opening_state image t) hs rs s (driven_in_order image t hs rs s driven)

pub one_driven : (image : ImageView) (t : Topology) (hs : List ℕ) (rs rs' : List StepRecord) (s s' : FlatState)
    → IsDriven image t hs rs s → IsDriven image t hs rs' s' → (rs ≡ rs') × (s ≡ s')
one_driven image t hs rs rs' s s' a b =
    turns_are_one image t (opening_state image t) hs rs rs' s s' (driven_in_order image t hs rs s a) (driven_in_order image t hs rs' s' b)

-- such a step is one
pub record IsOneStep (r r' : StepRecord) (need need' : Need) (new new' : FlatState) : Type 0 where
  pub record_is : r ≡ r'
  pub need_is : need ≡ need'
  pub new_is : new ≡ new'

pub one_eager_step : (image : ImageView) (t : Topology) (old : FlatState) (h : ℕ) (r r' : StepRecord) (new new' : FlatState)
    → (e : IsEagerStep image t old h r new) → (e' : IsEagerStep image t old h r' new') → IsOneStep r r' e.step.need e'.step.need new new'
one_eager_step image t old h r r' new new' e e' =
    let s = e.step in
    let s' = e'.step in
    let needs = needs_of image t (old.harts h) s.next s.need _ s.does in
    let needs' = needs_of image t (old.harts h) s'.next s'.need _ s'.does in
    let same = one_record image t old h r r' new new' s s' (eager_step_can image t old h r new e) (eager_step_can image t old h r' new' e') in
    record {
      record_is = same;
      need_is = one_need image t (old.harts h) s.need s'.need needs needs';
      new_is = one_new image t old h r' new new' (subst (λ x. IsFlatStep image t old h x new) same s) s';
    }
