-- The next instruction of a hart whose lock instruction was sent is that one; so the answer retires it.
use Rattle.std.proofs.Common.{◌≡◌, ℕ, ◌+◌, ◌≤◌, ◌==◌, Bool, true, false, cond, List, refl, sym, ap, ◌∙◌, subst, arith}
use Rattle.hart_core.specs.Meaning.{Does, retired_after}
use Rattle.dash_base.specs.declared.need.Need.{Need}
use Rattle.dash_base.specs.declared.need.Need.TheVariants as needed
use Rattle.hart_core.specs.HartState.{HartState}
use Rattle.hart_core.proofs.LawsOffered.{retires, one_need, needs_of}
use Rattle.dash_event.specs.declared.event.Event.{Event}
use Rattle.dash_event.specs.declared.event.Kind.{Kind}
use Rattle.dash_model.specs.Config.{Config, cluster_of}
use Rattle.dash_model.specs.Part.{Processor, Part}
use Rattle.dash_model.specs.LockFacts.{IsLock, NeedsLock, RunsKeepLocks}
use Rattle.dash_model.specs.Machine.{Machine, Step, part_after, CanHappen, after, Reaches}
use Rattle.dash_model.proofs.HartSteps.{answers_now, HartStep, Rests, Works, Sends, Answered, hart_step}
use Rattle.dash_model.proofs.LockRange.{locks_fit}
use Rattle.dash_model.proofs.LockFacts.{one_each, cases_apply}
use Rattle.dash_model.proofs.InRuns.{in_runs}

-- where it was sent the hart's next instruction is a lock instruction
abbrev pub AsksFirst : Config → Processor → Type 0
AsksFirst w s = s.asked ≡ true → NeedsLock w s.core

-- what a hart does is what it needs
does_lock : (w : Config) (s t : HartState) (need : Need) (x : ℕ) → Does w.image w.top s need x t → NeedsLock w s → IsLock need
does_lock w s t need x d k = subst IsLock (sym (one_need w.image w.top s need k.need (needs_of w.image w.top s t need x d) k.needs)) k.lock

pub asks_first : (w : Config) (e : Kind) (h : ℕ) (s t : Processor) → HartStep w e h s t → AsksFirst w s → AsksFirst w t
asks_first w e h s t (Rests i c a) k sent = subst (NeedsLock w) (sym c) (k (sym a ∙ sent))
asks_first w e h s t (Works i n x d u a) k sent = absurd (u (does_lock w s.core t.core n x d (k (sym a ∙ sent))))
asks_first w e h s t (Sends i j c a b n) k sent = subst (NeedsLock w) (sym c) n
asks_first w e h s t (Answered i j n x d a b) k sent = absurd (cc)

-- all harts of all parts
abbrev AskFirst : Config → Machine → Type 0
AskFirst w m = (c h : ℕ) → AsksFirst w ((m.parts c).harts h)

either : (w : Config) (h : ℕ) (q p : Part) (i : Bool) → AsksFirst w (q.harts h) → AsksFirst w (p.harts h) → AsksFirst w ((cond i q p).harts h)
either w h q p true a b = a
either w h q p false a b = b

step_asks : (w : Config) (log : List Event) (m : Machine) (g : Step) → Reaches w log m → CanHappen w m g → AskFirst w m → AskFirst w (after w m g)
step_asks w log m g r can k x h =
    let c = g.event.cluster.0 in
    let s = hart_step w c g.event.kind g.done (m.parts c) h can.steps.guard (cases_apply w log m g r can) in
    either w h (part_after w c g (m.parts c)) (m.parts x) (x == c) (asks_first w g.event.kind h ((m.parts c).harts h) ((part_after w c g (m.parts c)).harts h) s (k c h)) (k x h)

pub ask_first : (w : Config) (log : List Event) (m : Machine) → Reaches w log m → (c h : ℕ) → ((m.parts c).harts h).asked ≡ true → NeedsLock w ((m.parts c).harts h).core
ask_first w log m r = in_runs w (λ es n. AskFirst w n) (λ c h e. absurd (cc)) (λ es n g reached can k. step_asks w es n g reached can k) log m r

lock_retires : (need : Need) (n : ℕ) → IsLock need → retired_after need n ≡ n + 1
lock_retires (needed.Ask word value) n l = refl
lock_retires (needed.Unlock word) n l = refl
lock_retires _ n l = absurd l

no_less : (w : Config) (s t : HartState) (need : Need) (x : ℕ) → Does w.image w.top s need x t → s.retired ≤ t.retired
no_less w s t need x d = let now = retires w.image w.top s t need x d in grind arith

-- an event retires no less, and an answer one
pub answers_retire : (w : Config) (e : Kind) (h : ℕ) (s t : Processor) → HartStep w e h s t → (s.asked ≡ true → NeedsLock w s.core) → s.core.retired + answers_now e h ≤ t.core.retired
answers_retire w e h s t (Rests i c a) k = let y = i.1 in let z : t.core.retired ≡ s.core.retired = ap (λ (y : HartState). y.retired) c in omega arith
answers_retire w e h s t (Works i n x d u a) k = let y = i.1 in let z = no_less w s.core t.core n x d in omega arith
answers_retire w e h s t (Sends i j c a b n) k = let z : t.core.retired ≡ s.core.retired = ap (λ (y : HartState). y.retired) c in omega arith
answers_retire w e h s t (Answered i j n x d a b) k =
    let now = retires w.image w.top s.core t.core n x d in
    let one = lock_retires n s.core.retired (does_lock w s.core t.core n x d (k a)) in
    omega arith

pub runs_keep_locks : RunsKeepLocks
runs_keep_locks w log m r = record { waiters = (locks_fit w log m r).queues; one_each = one_each w log m r; next = λ h sent. ask_first w log m r (cluster_of w h) h sent }
