-- What holds of each record of a list of steps.
use Rattle.std.proofs.Common.{◌≡◌, ◌<◌, ◌≤◌, ℕ, zero, suc, ◌+◌, Bool, true, false, List, [], ◌∷◌, refl, sym, ◌∙◌, ap, subst, arith, eq-eqb}
use Rattle.std.proofs.lemmas.Bool.Decides.{nat_tests}
use Rattle.std.specs.Prelude.{if◌then◌else◌, ◌==◌}
use Rattle.dash_base.specs.declared.topology.Topology.{Topology}
use Rattle.elf_load.specs.Image.{ImageView}
use Rattle.dash_event.specs.declared.access.Access.{Access}
use Rattle.dash_event.specs.declared.step_record.StepRecord.{StepRecord}
use Rattle.dash_event.specs.declared.step_record.StepRecord.TheVariants as step
use Rattle.hart_core.specs.HartState.{HartState}
use Rattle.dash_base.specs.Places.{hart_count}
use Rattle.flat_model.specs.State.{FlatState}
use Rattle.flat_model.specs.Step.{IsFlatStep}
use Rattle.dash_event.specs.Effects.{hart_of}
use Rattle.flat_model.specs.Run.{AreFlatSteps, IsSequentialRun}
use Rattle.flat_model.specs.Race.{IsRace}
use Rattle.flat_model.specs.Order.{IsAt, IsAccessAt}
use Rattle.hart_core.proofs.LawsOffered.{in_budget}
use Rattle.flat_model.proofs.Retired.{retires_no_less, access_retires}
use Rattle.flat_model.proofs.Offers.{is_offered, number_is}

pub hart_in_range : (image : ImageView) (t : Topology) (old : FlatState) (rs : List StepRecord) (new : FlatState)
    → AreFlatSteps image t old rs new → (i : ℕ) (r : StepRecord) → IsAt rs i r → (hart_of r).0 < hart_count t
hart_in_range image t old [] new steps i r at = absurd cc
hart_in_range image t old (x ∷ rs) new steps zero r at =
    let same : x ≡ r = cc in subst (λ y. (hart_of y).0 < hart_count t) same steps.1.in_range
hart_in_range image t old (x ∷ rs) new steps (suc i) r at =
    hart_in_range image t steps.0 rs new steps.2 i r at

-- the hart of a choice has retired no more than either
retired-chosen : (chosen : Bool) (next old : HartState) (n : ℕ) → next.retired ≤ n → old.retired ≤ n → (if chosen then next else old).retired ≤ n
retired-chosen true next old n a b = a
retired-chosen false next old n a b = b

-- a step leaves each hart within its budget
within_budget_on : (image : ImageView) (t : Topology) (old : FlatState) (r : StepRecord) (new : FlatState)
    → IsFlatStep image t old (hart_of r).0 r new → ((g : ℕ) → (old.harts g).retired ≤ t.budget) → (g : ℕ) → (new.harts g).retired ≤ t.budget
within_budget_on image t old r new s within g =
    let next_within = in_budget image t (old.harts (hart_of r).0) s.next s.need _ s.does in
    let chosen = retired-chosen (g == (hart_of r).0) s.next (old.harts g) t.budget next_within (within g) in
    subst (λ x. (x.harts g).retired ≤ t.budget) (sym s.after) chosen

pub within_budget : (image : ImageView) (t : Topology) (old : FlatState) (rs : List StepRecord) (new : FlatState)
    → AreFlatSteps image t old rs new → ((g : ℕ) → (old.harts g).retired ≤ t.budget) → (g : ℕ) → (new.harts g).retired ≤ t.budget
within_budget image t old [] new steps within g = subst (λ x. (x.harts g).retired ≤ t.budget) (sym steps) (within g)
within_budget image t old (r ∷ rs) new steps within g =
    within_budget image t steps.0 rs new steps.2 (within_budget_on image t old r steps.0 steps.1 within) g

-- the hart of a choice has retired no less than its old state
kept-chosen : (f : ℕ → HartState) (g h : ℕ) (next : HartState) → (f h).retired ≤ next.retired → (f g).retired ≤ (if g == h then next else f g).retired
kept-chosen f g h next more = kept-chosen_by f g h next more (g == h) refl
  where
    kept-chosen_by : (f : ℕ → HartState) (g h : ℕ) (next : HartState) → (f h).retired ≤ next.retired → (b : Bool) → (g == h) ≡ b → (f g).retired ≤ (if b then next else f g).retired
    kept-chosen_by f g h next more true same =
        let e : g ≡ h = grind (arith, nat_tests) in subst (λ x. (f x).retired ≤ next.retired) (sym e) more
    kept-chosen_by f g h next more false other = omega arith

-- a step takes back nothing that was retired
retired_stays : (image : ImageView) (t : Topology) (old : FlatState) (r : StepRecord) (new : FlatState)
    → IsFlatStep image t old (hart_of r).0 r new → (g : ℕ) → (old.harts g).retired ≤ (new.harts g).retired
retired_stays image t old r new s g =
    let h = (hart_of r).0 in
    let more = retires_no_less image t (old.harts h) s.next s.need _ s.does in
    subst (λ x. (old.harts g).retired ≤ (x.harts g).retired) (sym s.after) (kept-chosen old.harts g h s.next more)

-- the number of an access is one more than its hart had retired, and then it has
pub record IsNumbered (old : FlatState) (a : Access) (new : FlatState) : Type 0 where
  pub next : (old.harts a.hart.0).retired + 1 ≡ a.number
  pub done : (new.harts a.hart.0).retired ≡ a.number

pub numbered : (image : ImageView) (t : Topology) (old : FlatState) (a : Access) (new : FlatState)
    → IsFlatStep image t old a.hart.0 (step.Access a) new → IsNumbered old a new
numbered image t old a new s =
    let h = a.hart.0 in
    let is = is_offered h s.need _ a s.recorded in
    let number = number_is h ((old.harts h).retired + 1) s.need _ s.succeeds a is in
    let retires = access_retires image t (old.harts h) s.next s.need _ h ((old.harts h).retired + 1) _ s.succeeds a s.does is in
    let new_is : new.harts h ≡ s.next = ap (λ x. x.harts h) s.after ∙ ap (λ b. if b then s.next else old.harts h) (eq-eqb h h refl) in
    record { next = number; done = ap (λ x. x.retired) new_is ∙ retires ∙ number }

-- the step at the head of a list
pub at_head : (image : ImageView) (t : Topology) (old : FlatState) (x : StepRecord) (new : FlatState) (a : Access)
    → IsFlatStep image t old (hart_of x).0 x new → x ≡ step.Access a → IsFlatStep image t old a.hart.0 (step.Access a) new
at_head image t old x new a s same = subst (λ y. IsFlatStep image t old (hart_of y).0 y new) same s

-- the number of an access is above what its hart had retired
number_above : (image : ImageView) (t : Topology) (old : FlatState) (rs : List StepRecord) (new : FlatState)
    → AreFlatSteps image t old rs new → (i : ℕ) (a : Access) → IsAccessAt rs i a → (old.harts a.hart.0).retired < a.number
number_above image t old [] new steps i a at = absurd cc
number_above image t old (x ∷ rs) new steps zero a at =
    let same : x ≡ step.Access a = cc in
    let n = numbered image t old a steps.0 (at_head image t old x steps.0 a steps.1 same) in
    omega (arith, n.next)
number_above image t old (x ∷ rs) new steps (suc i) a at =
    let rest = number_above image t steps.0 rs new steps.2 i a at in
    let stays = retired_stays image t old x steps.0 steps.1 a.hart.0 in
    omega arith

pub numbers_rise : (image : ImageView) (t : Topology) (old : FlatState) (rs : List StepRecord) (new : FlatState)
    → AreFlatSteps image t old rs new → (i j : ℕ) (a b : Access) → IsAccessAt rs i a → IsAccessAt rs j b → i < j → a.hart ≡ b.hart → a.number < b.number
numbers_rise image t old [] new steps i j a b at_i at_j before same = absurd cc
numbers_rise image t old (x ∷ rs) new steps i zero a b at_i at_j before same = absurd (omega arith)
numbers_rise image t old (x ∷ rs) new steps zero (suc j) a b at_i at_j before same =
    let is : x ≡ step.Access a = cc in
    let n = numbered image t old a steps.0 (at_head image t old x steps.0 a steps.1 is) in
    let above = number_above image t steps.0 rs new steps.2 j b at_j in
    let hart : (steps.0.harts a.hart.0).retired ≡ (steps.0.harts b.hart.0).retired = ap (λ g. (steps.0.harts g.0).retired) same in
    omega (arith, n.done, hart, above)
numbers_rise image t old (x ∷ rs) new steps (suc i) (suc j) a b at_i at_j before same =
    numbers_rise image t steps.0 rs new steps.2 i j a b at_i at_j (omega arith) same

-- where there is one hart, no two accesses are of different ones
pub one_hart : (image : ImageView) (t : Topology) → hart_count t ≡ 1 → (rs : List StepRecord) → IsSequentialRun image t rs → (i j : ℕ) → ¬ IsRace rs i j
one_hart image t one rs run i j race =
    let first = hart_in_range image t _ rs run.final run.runs i _ race.first_at in
    let second = hart_in_range image t _ rs run.final run.runs j _ race.second_at in
    let same : race.first.hart.0 ≡ race.second.hart.0 = omega arith in
    race.harts_differ (λ k. record { 0 = same k })
