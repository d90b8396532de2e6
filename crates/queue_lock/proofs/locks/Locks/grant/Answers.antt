use Rattle.std.proofs.Common.{◌≡◌, ◌-◌, length, slice_get, ap, sym, ◌∙◌, arith, length-drop}
use Rattle.queue_lock.specs.declared.word.LockWord.{LockWord}
use Rattle.queue_lock.specs.View.{Lock}
use Rattle.queue_lock.specs.Steps.{granted}
use Rattle.queue_lock.specs.Kept.{lock_of}
use Rattle.queue_lock.proofs.Changing.{lock_is, some_wait, some_counted, after, kept_after}
use Rattle.queue_lock.proofs.locks.Locks.grant.Goals as goal

pub grant-waiter-requires : goal.grant-waiter-requires
grant-waiter-requires c =
    some_wait _ _ _ _ _ _ c.self.invariant _ c.self.view_is c.args.i c.requires.own c.index_mut-word.result.now c.index_mut-word.ensures.value c.requires.ready

pub overflow_sub-self : goal.overflow_sub-self
overflow_sub-self c =
    some_counted _ _ _ _ _ _ c.self.invariant _ c.self.view_is c.args.i c.requires.own c.index_mut-word.result.now c.index_mut-word.ensures.value c.requires.ready

pub invariant_of-self : goal.invariant_of-self
invariant_of-self c =
    let old = c.index_mut-word.result.now in
    let some = some_wait _ _ _ _ _ _ c.self.invariant _ c.self.view_is c.args.i c.requires.own old c.index_mut-word.ensures.value c.requires.ready in
    let counted = some_counted _ _ _ _ _ _ c.self.invariant _ c.self.view_is c.args.i c.requires.own old c.index_mut-word.ensures.value c.requires.ready in
    let long : length c.grant-waiter.new.self.queue.items ≡ length old.queue.items - 1 = ap (λ (w : LockWord). length w.queue.items) c.grant-waiter.ensures.after ∙ length-drop 1 old.queue.items in
    kept_after _ _ _ _ _ _ c.self.invariant _ c.self.view_is c.args.i c.requires.own old c.index_mut-word.ensures.value c.grant-waiter.new.self _
    (ap (λ (w : LockWord). w.queue.capacity) c.grant-waiter.ensures.after) (omega (arith, long, some, counted)) (omega (arith, c.self.invariant.few))

pub returns-clause-first : goal.returns-clause-first
returns-clause-first c =
    ap (λ (l : Lock). slice_get l.queue 0) (sym (lock_is _ _ _ _ _ _ c.self.invariant _ c.self.view_is c.args.i c.requires.own c.index_mut-word.result.now c.index_mut-word.ensures.value))
    ∙ c.grant-waiter.ensures.first

pub returns-clause-after : goal.returns-clause-after
returns-clause-after c =
    after _ _ _ _ _ _ c.self.invariant _ c.self.view_is c.args.i c.requires.own c.index_mut-word.result.now c.index_mut-word.ensures.value c.grant-waiter.new.self _
    (ap lock_of c.grant-waiter.ensures.after
    ∙ ap (granted c.grant-waiter.result) (lock_is _ _ _ _ _ _ c.self.invariant _ c.self.view_is c.args.i c.requires.own c.index_mut-word.result.now c.index_mut-word.ensures.value))
