-- The number of an access, as a count of the records before it.
use Rattle.std.proofs.Common.{◌≡◌, ℕ, zero, suc, ◌+◌, Bool, true, false, List, [], ◌∷◌, refl, sym, ◌∙◌, ap, arith}
use Rattle.std.proofs.lemmas.Bool.Decides.{nat_tests}
use Rattle.std.proofs.lemmas.List.Sums.{sum_by-cons}
use Rattle.std.specs.Prelude.{if◌then◌else◌, ◌==◌, ◌&&◌, nat_lt, take, count_by}
use Rattle.dash_base.specs.declared.end.End.TheVariants.{Trapped}
use Rattle.dash_base.specs.declared.topology.Topology.{Topology}
use Rattle.elf_load.specs.Image.{ImageView}
use Rattle.dash_event.specs.declared.access.Access.{Access}
use Rattle.dash_event.specs.declared.step_record.StepRecord.{StepRecord}
use Rattle.dash_event.specs.declared.step_record.StepRecord.TheVariants as step
use Rattle.hart_core.specs.HartState.{HartState, is_running, can_go_on}
use Rattle.hart_core.specs.Meaning.{Does, is_trap, after_need, retired_after}
use Rattle.hart_core.specs.declared.found.Found.{Found}
use Rattle.dash_base.specs.declared.need.Need.{Need}
use Rattle.dash_base.specs.declared.need.Need.TheVariants.{Stop}
use Rattle.hart_core.proofs.LawsOffered.{retires}
use Rattle.flat_model.specs.State.{FlatState, opening_state}
use Rattle.flat_model.specs.Step.{IsFlatStep}
use Rattle.dash_event.specs.Effects.{hart_of}
use Rattle.flat_model.specs.Run.{AreFlatSteps, IsSequentialRun}
use Rattle.flat_model.specs.Order.{IsAt, IsAccessAt}
use Rattle.flat_model.proofs.InRuns.{numbered, at_head}

both_hold : (a b : Bool) → (a && b) ≡ true → a ≡ true
both_hold true b e = refl
both_hold false b e = cc

-- a hart that can go on is running
running : (t : Topology) (h : HartState) → can_go_on t h ≡ true → is_running h.end ≡ true
running t h goes = both_hold (is_running h.end) (nat_lt h.retired t.budget) goes

-- a trap ends its hart
trap_ends : (h : HartState) (found : Found) (need : Need) (answer : ℕ) → is_trap need ≡ true → is_running (after_need h found need answer).end ≡ false
trap_ends h found (Stop (Trapped cause value)) answer e = refl
trap_ends h found (Stop end) answer e = cc
trap_ends h found need answer e = cc

-- what does not trap retires one
retires_one : (need : Need) (n : ℕ) (trap : Bool) → is_trap need ≡ trap → trap ≡ false → retired_after need n ≡ n + 1
retires_one need n true e f = cc
retires_one need n false e f = ap (λ b. if b then n else n + 1) e

-- a hart that is running after its step did not trap
no_trap : (image : ImageView) (t : Topology) (h k : HartState) (need : Need) (answer : ℕ) → Does image t h need answer k → is_running k.end ≡ true
    → (trap : Bool) → is_trap need ≡ trap → trap ≡ false
no_trap image t h k need answer d runs true e =
    let ends : is_running k.end ≡ false = ap (λ x. is_running x.end) d.after ∙ trap_ends h d.found need answer e in cc
no_trap image t h k need answer d runs false e = refl

module _ (image : ImageView) (t : Topology) (g : ℕ) where
  -- a hart that has ended stays so
  stays_ended : (old : FlatState) (r : StepRecord) (new : FlatState) → IsFlatStep image t old (hart_of r).0 r new
      → (own : Bool) → (g == (hart_of r).0) ≡ own → is_running (old.harts g).end ≡ false → is_running (new.harts g).end ≡ false
  stays_ended old r new s true e ended =
      let same : g ≡ (hart_of r).0 = grind (arith, nat_tests) in
      let runs : is_running (old.harts g).end ≡ true = ap (λ h. is_running (old.harts h).end) same ∙ running t (old.harts (hart_of r).0) s.does.goes in
      cc
  stays_ended old r new s false e ended =
      ap (λ x. is_running (x.harts g).end) s.after ∙ ap (λ b. is_running (if b then s.next else old.harts g).end) e ∙ ended

  -- and has no more records
  no_more : (old : FlatState) (rs : List StepRecord) (new : FlatState) → AreFlatSteps image t old rs new → is_running (old.harts g).end ≡ false
      → (i : ℕ) (r : StepRecord) → IsAt rs i r → ¬ ((hart_of r).0 ≡ g)
  no_more old [] new steps ended i r at own = cc
  no_more old (x ∷ rs) new steps ended zero r at own =
      let same : x ≡ r = cc in
      let hart : (hart_of x).0 ≡ g = ap (λ y. (hart_of y).0) same ∙ own in
      let runs : is_running (old.harts g).end ≡ true = ap (λ h. is_running (old.harts h).end) (sym hart) ∙ running t (old.harts (hart_of x).0) steps.1.does.goes in
      cc
  no_more old (x ∷ rs) new steps ended (suc i) r at own =
      no_more steps.0 rs new steps.2 (stays_ended old x steps.0 steps.1 (g == (hart_of x).0) refl ended) i r at own

  -- a hart that runs on has retired one more where the step was its own
  retired_on : (old : FlatState) (r : StepRecord) (new : FlatState) → IsFlatStep image t old (hart_of r).0 r new
      → (own : Bool) → (g == (hart_of r).0) ≡ own → is_running (new.harts g).end ≡ true → (new.harts g).retired ≡ (if own then 1 else 0) + (old.harts g).retired
  retired_on old r new s true e runs =
      let same : g ≡ (hart_of r).0 = grind (arith, nat_tests) in
      let is : new.harts g ≡ s.next = ap (λ x. x.harts g) s.after ∙ ap (λ b. if b then s.next else old.harts g) e in
      let next_runs : is_running s.next.end ≡ true = sym (ap (λ x. is_running x.end) is) ∙ runs in
      let clear = no_trap image t (old.harts (hart_of r).0) s.next s.need _ s.does next_runs (is_trap s.need) refl in
      let after = retires image t (old.harts (hart_of r).0) s.next s.need _ s.does in
      let one = retires_one s.need (old.harts (hart_of r).0).retired (is_trap s.need) refl clear in
      let retired : (new.harts g).retired ≡ s.next.retired = ap (λ x. x.retired) is in
      let before : (old.harts g).retired ≡ (old.harts (hart_of r).0).retired = ap (λ h. (old.harts h).retired) same in
      omega (arith, after, one, retired, before)
  retired_on old r new s false e runs =
      let is : (new.harts g).retired ≡ (old.harts g).retired = ap (λ x. (x.harts g).retired) s.after ∙ ap (λ b. (if b then s.next else old.harts g).retired) e in
      omega arith

  -- a hart with a record to come is running
  runs_on : (old : FlatState) (rs : List StepRecord) (new : FlatState) → AreFlatSteps image t old rs new → (i : ℕ) (r : StepRecord) → IsAt rs i r → (hart_of r).0 ≡ g
      → (runs : Bool) → is_running (old.harts g).end ≡ runs → runs ≡ true
  runs_on old rs new steps i r at own true e = refl
  runs_on old rs new steps i r at own false e = absurd (no_more old rs new steps e i r at own)

  counted : (old : FlatState) (rs : List StepRecord) (new : FlatState) → AreFlatSteps image t old rs new → (i : ℕ) (a : Access) → IsAccessAt rs i a → a.hart.0 ≡ g
      → a.number ≡ count_by (λ r. g == (hart_of r).0) (take i rs) + ((old.harts g).retired + 1)
  counted old [] new steps i a at own = absurd cc
  counted old (x ∷ rs) new steps zero a at own =
      let is : x ≡ step.Access a = cc in
      let n = numbered image t old a steps.0 (at_head image t old x steps.0 a steps.1 is) in
      let hart : (old.harts a.hart.0).retired ≡ (old.harts g).retired = ap (λ h. (old.harts h).retired) own in
      omega (arith, n.next, hart)
  counted old (x ∷ rs) new steps (suc i) a at own =
      let rest = counted steps.0 rs new steps.2 i a at own in
      let runs = runs_on steps.0 rs new steps.2 i (step.Access a) at own (is_running (steps.0.harts g).end) refl in
      let on = retired_on old x steps.0 steps.1 (g == (hart_of x).0) refl runs in
      let grows : count_by (λ r. g == (hart_of r).0) (take (suc i) (x ∷ rs)) ≡ (if g == (hart_of x).0 then 1 else 0) + count_by (λ r. g == (hart_of r).0) (take i rs) = sum_by-cons (λ r. if g == (hart_of r).0 then 1 else 0) x (take i rs) in
      omega (arith, rest, on, grows)

pub number_counts : (image : ImageView) (t : Topology) (rs : List StepRecord) → IsSequentialRun image t rs
    → (i : ℕ) (a : Access) → IsAccessAt rs i a → a.number ≡ count_by (λ r. a.hart.0 == (hart_of r).0) (take i rs) + 1
number_counts image t rs run i a at = counted image t a.hart.0 (opening_state image t) rs run.final run.runs i a at refl
