-- In a local run those who wait at a cluster wait for its own lock words.
use Rattle.std.proofs.Common.{◌≡◌, ◌≢◌, ℕ, ◌==◌, Bool, true, false, cond, List, [], ◌∷◌, ◌++◌, refl, sym, ap, ◌∙◌, subst}
use Rattle.dash_base.specs.declared.id.WordAddr.{WordAddr}
use Rattle.dash_event.specs.declared.event.Kind.{Kind}
use Rattle.dash_model.specs.Maps.{raised, most}
use Rattle.dash_model.specs.Config.{Config, is_lock, lock_at, lock_home}
use Rattle.dash_model.specs.Part.{Lock, Part, opening_part}
use Rattle.dash_model.specs.HartRows.{PartEffect}
use Rattle.dash_model.specs.Ranges.{has_hart, own_lock}
use Rattle.dash_model.specs.Machine.{Step, Steps, part_after}
use Rattle.dash_model.specs.LocalRun.{IsLocalRun, part_at}
use Rattle.dash_model.specs.LocalWeights.{LocalRunsQueueAtHome}
use Rattle.dash_model.proofs.Tests.{is_same, both_right}
use Rattle.dash_model.proofs.LockViews.{LockView, Plain, Sends, Grants, Frees, Waits, Granted, Freed, Drops, lock_view}

-- nobody waits at cluster c for a lock word of another home
abbrev QueuesAtHome : Config → ℕ → Part → Type 0
QueuesAtHome w c p = (i : ℕ) → c ≢ lock_home w i → (p.locks i).queue ≡ []

-- parts with the same lock words
as_queues : (w : Config) (c : ℕ) (p r : Part) → r.locks ≡ p.locks → QueuesAtHome w c p → QueuesAtHome w c r
as_queues w c p r e q i other = subst (λ (f : ℕ → Lock). (f i).queue ≡ []) (sym e) (q i other)

-- an own lock word becomes another
own_changed : (w : Config) (c : ℕ) (word : WordAddr) (x : Lock) (p : Part) → own_lock w c word ≡ true → QueuesAtHome w c p → (i : ℕ) (b : Bool) → (i == lock_at w word.0) ≡ b → c ≢ lock_home w i → (cond b x (p.locks i)).queue ≡ []
own_changed w c word x p own q i true e other =
    let home = is_same (lock_home w (lock_at w word.0)) c (both_right (is_lock w word.0) (lock_home w (lock_at w word.0) == c) own) in
    absurd (other (sym (ap (lock_home w) (is_same i (lock_at w word.0) e) ∙ home)))
own_changed w c word x p own q i false e other = q i other

view_queues : (w : Config) (c : ℕ) (p : Part) (e : Kind) (r : PartEffect) → QueuesAtHome w c p → LockView w c p e r → QueuesAtHome w c r.part
view_queues w c p _ _ q (Plain e r k) = as_queues w c p r.part k.locks q
view_queues w c p _ _ q (Sends g m need z mine needs sends l) = as_queues w c p z l q
view_queues w c p _ _ q (Grants a x xs own is mine) =
    let lock = p.locks (lock_at w a.word.0) in
    λ i other. own_changed w c a.word (record { value = x.value; count = raised most lock.count; queue = xs }) p own q i (i == lock_at w a.word.0) refl other
view_queues w c p _ _ q (Frees f a s) =
    let lock = p.locks (lock_at w a.word.0) in
    λ i other. own_changed w c a.word (record { value = 0; count = raised most lock.count; queue = lock.queue }) p (both_right (has_hart w a.hart) (own_lock w c a.word) s) q i (i == lock_at w a.word.0) refl other
view_queues w c p _ _ q (Waits f t n word v range) =
    let lock = p.locks (lock_at w word.0) in
    λ i other. own_changed w c word (record lock { queue = lock.queue ++ (record { hart = t.0; number = n; value = v }) ∷ [] }) p (both_right (has_hart w t) (own_lock w c word) range) q i (i == lock_at w word.0) refl other
view_queues w c p _ _ q (Granted f t z l) = as_queues w c p z l q
view_queues w c p _ _ q (Freed f t old z l) = as_queues w c p z l q
view_queues w c p _ _ q (Drops f m k) = q

queues_step : (w : Config) (c : ℕ) (p : Part) (g : Step) → Steps w c g p → QueuesAtHome w c p → QueuesAtHome w c (part_after w c g p)
queues_step w c p g s q = view_queues w c p g.event.kind _ q (lock_view w c g.event.kind g.done p s.guard)

queues_along : (w : Config) (c : ℕ) (p : Part) (gs : List Step) → IsLocalRun w c p gs → QueuesAtHome w c p → QueuesAtHome w c (part_at w c p gs)
queues_along w c p [] r q = q
queues_along w c p (g ∷ gs) r q = queues_along w c (part_after w c g p) gs r.1 (queues_step w c p g r.0 q)

pub local_runs_queue_at_home : LocalRunsQueueAtHome
local_runs_queue_at_home w c gs i r other = queues_along w c (opening_part w) gs r (λ j k. refl) i other
