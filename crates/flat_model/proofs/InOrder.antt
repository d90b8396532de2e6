-- Runs that take harts in a given order.
use Rattle.std.proofs.Common.{◌≡◌, ℕ, ◌+◌, Bool, true, false, List, [], ◌∷◌, ◌++◌, refl, sym, ◌∙◌, ap, subst}
use Rattle.dash_base.specs.declared.ops.AmoOp.TheVariants.{Sc}
use Rattle.dash_base.specs.declared.topology.Topology.{Topology}
use Rattle.elf_load.specs.Image.{ImageView}
use Rattle.dash_event.specs.declared.step_record.StepRecord.{StepRecord}
use Rattle.dash_base.specs.declared.need.Need.{Need}
use Rattle.dash_base.specs.declared.need.Need.TheVariants.{Rmw}
use Rattle.hart_core.proofs.LawsOffered.{one_need, needs_of}
use Rattle.dash_event.specs.Offered.{offered}
use Rattle.flat_model.specs.State.{FlatState}
use Rattle.flat_model.specs.Step.{IsPossible, content, record_of, IsFlatStep}
use Rattle.flat_model.specs.Run.{AreFlatSteps}
use Rattle.flat_model.specs.InOrder.{SucceedsWhereItCan, IsTurn, AreTurns}
use Rattle.flat_model.proofs.Steps.{one_new, of_its_hart, no_step_of}

-- a turn, and steps after it
turn_and_steps : (image : ImageView) (t : Topology) (old : FlatState) (h : ℕ) (turn : List StepRecord) (mid : FlatState) → IsTurn image t old h turn mid
    → (rest : List StepRecord) (new : FlatState) → AreFlatSteps image t mid rest new → AreFlatSteps image t old (turn ++ rest) new
turn_and_steps image t old h [] mid turn rest new steps = subst (λ s. AreFlatSteps image t s rest new) turn.1 steps
turn_and_steps image t old h (r ∷ []) mid turn rest new steps =
    (mid, subst (λ g. IsFlatStep image t old g r mid) (sym (of_its_hart image t old h r mid turn.0)) turn.0, steps)
turn_and_steps image t old h (r ∷ q ∷ rs) mid turn rest new steps = absurd turn

pub turns_are_steps : (image : ImageView) (t : Topology) (old : FlatState) (hs : List ℕ) (rs : List StepRecord) (new : FlatState)
    → AreTurns image t old hs rs new → AreFlatSteps image t old rs new
turns_are_steps image t old [] rs new turns = subst (λ x. AreFlatSteps image t old x new) (sym turns.0) turns.1
turns_are_steps image t old (h ∷ hs) rs new turns =
    let rest = turns_are_steps image t turns.2 hs turns.1 new turns.5 in
    subst (λ x. AreFlatSteps image t old x new) (sym turns.3) (turn_and_steps image t old h turns.0 turns.2 turns.4 turns.1 new rest)

-- a need is recorded in one way, where an SC succeeds wherever it can
same_record : (s : FlatState) (h n : ℕ) (need : Need) (ok ok' : Bool) → IsPossible s h need ok → IsPossible s h need ok'
    → SucceedsWhereItCan s (record_of h need (offered h n need (content s need) ok)) → SucceedsWhereItCan s (record_of h need (offered h n need (content s need) ok'))
    → record_of h need (offered h n need (content s need) ok) ≡ record_of h need (offered h n need (content s need) ok')
same_record s h n (Rmw w Sc x l) true true possible possible' can can' = refl
same_record s h n (Rmw w Sc x l) false false possible possible' can can' = refl
same_record s h n (Rmw w Sc x l) true false possible possible' can can' = absurd (let no : false ≡ true = can' refl possible in cc)
same_record s h n (Rmw w Sc x l) false true possible possible' can can' = absurd (let no : false ≡ true = can refl possible' in cc)
same_record s h n (Rmw w amo x l) ok ok' possible possible' can can' = refl
same_record s h n _ ok ok' possible possible' can can' = refl

pub one_record : (image : ImageView) (t : Topology) (old : FlatState) (h : ℕ) (r r' : StepRecord) (new new' : FlatState)
    → IsFlatStep image t old h r new → IsFlatStep image t old h r' new' → SucceedsWhereItCan old r → SucceedsWhereItCan old r' → r ≡ r'
one_record image t old h r r' new new' s s' can can' =
    let n = (old.harts h).retired + 1 in
    let needs = needs_of image t (old.harts h) s.next s.need _ s.does in
    let needs' = needs_of image t (old.harts h) s'.next s'.need _ s'.does in
    let same : s'.need ≡ s.need = one_need image t (old.harts h) s'.need s.need needs' needs in
    let recorded : r' ≡ record_of h s.need (offered h n s.need (content old s.need) s'.succeeds) =
    subst (λ x. r' ≡ record_of h x (offered h n x (content old x) s'.succeeds)) same s'.recorded in
    let possible = subst (λ x. IsPossible old h x s'.succeeds) same s'.possible in
    s.recorded ∙ same_record old h n s.need s.succeeds s'.succeeds s.possible possible
    (subst (SucceedsWhereItCan old) s.recorded can) (subst (SucceedsWhereItCan old) recorded can') ∙ sym recorded

-- a turn is one
turn_is_one : (image : ImageView) (t : Topology) (old : FlatState) (h : ℕ) (turn turn' : List StepRecord) (mid mid' : FlatState)
    → IsTurn image t old h turn mid → IsTurn image t old h turn' mid' → (turn ≡ turn') × (mid ≡ mid')
turn_is_one image t old h [] [] mid mid' a b = (refl, a.1 ∙ sym b.1)
turn_is_one image t old h [] (r ∷ []) mid mid' a b = absurd (no_step_of image t old h r mid' a.0 b.0)
turn_is_one image t old h (r ∷ []) [] mid mid' a b = absurd (no_step_of image t old h r mid b.0 a.0)
turn_is_one image t old h (r ∷ []) (r' ∷ []) mid mid' a b =
    let same = one_record image t old h r r' mid mid' a.0 b.0 a.1 b.1 in
    (ap (λ x. x ∷ []) same, one_new image t old h r' mid mid' (subst (λ x. IsFlatStep image t old h x mid) same a.0) b.0)
turn_is_one image t old h (r ∷ q ∷ rs) turn' mid mid' a b = absurd a
turn_is_one image t old h turn (r ∷ q ∷ rs) mid mid' a b = absurd b

pub turns_are_one : (image : ImageView) (t : Topology) (old : FlatState) (hs : List ℕ) (rs rs' : List StepRecord) (new new' : FlatState)
    → AreTurns image t old hs rs new → AreTurns image t old hs rs' new' → (rs ≡ rs') × (new ≡ new')
turns_are_one image t old [] rs rs' new new' a b = (a.0 ∙ sym b.0, a.1 ∙ sym b.1)
turns_are_one image t old (h ∷ hs) rs rs' new new' a b =
    let turn = turn_is_one image t old h a.0 b.0 a.2 b.2 a.4 b.4 in
    let more = turns_are_one image t a.2 hs a.1 b.1 new new' a.5 (subst (λ s. AreTurns image t s hs b.1 new') (sym turn.1) b.5) in
    (a.3 ∙ ap (λ x. x ++ a.1) turn.0 ∙ ap (λ x. b.0 ++ x) more.0 ∙ sym b.3, more.1)
