-- No hart retires more than its budget.
use Rattle.std.proofs.Common.{ℕ, ◌≤◌, ◌==◌, Bool, true, false, cond, List, sym, subst, arith}
use Rattle.hart_core.proofs.LawsOffered.{in_budget}
use Rattle.dash_event.specs.declared.event.Event.{Event}
use Rattle.dash_event.specs.declared.event.Kind.{Kind}
use Rattle.dash_model.specs.Config.{Config}
use Rattle.dash_model.specs.Part.{Processor, Part}
use Rattle.dash_model.specs.Machine.{Machine, Step, part_after, CanHappen, after, Reaches}
use Rattle.dash_model.proofs.HartSteps.{HartStep, Rests, Works, Sends, Answered, hart_step}
use Rattle.dash_model.proofs.LockFacts.{cases_apply}
use Rattle.dash_model.proofs.InRuns.{in_runs}

within : (w : Config) (e : Kind) (h : ℕ) (s t : Processor) → HartStep w e h s t → s.core.retired ≤ w.top.budget → t.core.retired ≤ w.top.budget
within w e h s t (Rests i c a) b = subst (λ x. x.retired ≤ w.top.budget) (sym c) b
within w e h s t (Works i n x d u a) b = in_budget w.image w.top s.core t.core n x d
within w e h s t (Sends i j c a k n) b = subst (λ x. x.retired ≤ w.top.budget) (sym c) b
within w e h s t (Answered i j n x d a k) b = in_budget w.image w.top s.core t.core n x d

-- all harts of all parts
abbrev Within : Config → Machine → Type 0
Within w m = (c h : ℕ) → ((m.parts c).harts h).core.retired ≤ w.top.budget

either : (n h : ℕ) (q p : Part) (i : Bool) → (q.harts h).core.retired ≤ n → (p.harts h).core.retired ≤ n → ((cond i q p).harts h).core.retired ≤ n
either n h q p true a b = a
either n h q p false a b = b

step_within : (w : Config) (log : List Event) (m : Machine) (g : Step) → Reaches w log m → CanHappen w m g → Within w m → Within w (after w m g)
step_within w log m g r can k x h =
    let c = g.event.cluster.0 in
    let s = hart_step w c g.event.kind g.done (m.parts c) h can.steps.guard (cases_apply w log m g r can) in
    either w.top.budget h (part_after w c g (m.parts c)) (m.parts x) (x == c) (within w g.event.kind h ((m.parts c).harts h) ((part_after w c g (m.parts c)).harts h) s (k c h)) (k x h)

pub retired_in_budget : (w : Config) (log : List Event) (m : Machine) → Reaches w log m → (c h : ℕ) → ((m.parts c).harts h).core.retired ≤ w.top.budget
retired_in_budget w log m r = in_runs w (λ es n. Within w n) (λ c h. omega arith) (λ es n g reached can k. step_within w es n g reached can k) log m r
