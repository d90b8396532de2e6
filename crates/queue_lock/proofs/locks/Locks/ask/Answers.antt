use Rattle.std.proofs.Common.{◌≡◌, ◌+◌, ◌∷◌, [], length, ap, ◌∙◌, arith, length-append}
use Rattle.queue_lock.specs.declared.word.LockWord.{LockWord}
use Rattle.queue_lock.specs.Steps.{asked}
use Rattle.queue_lock.specs.Kept.{lock_of}
use Rattle.queue_lock.proofs.Changing.{lock_is, room_left, few_left, after, kept_after}
use Rattle.queue_lock.proofs.locks.Locks.ask.Goals as goal

pub ask-requires : goal.ask-requires
ask-requires c =
    room_left _ _ _ _ _ _ c.self.invariant _ c.self.view_is c.args.i c.requires.own c.index_mut-word.result.now c.index_mut-word.ensures.value c.requires.room

pub invariant_of-self : goal.invariant_of-self
invariant_of-self c =
    let old = c.index_mut-word.result.now in
    let long : length c.ask.new.self.queue.items ≡ length old.queue.items + 1 = ap (λ (w : LockWord). length w.queue.items) c.ask.ensures ∙ length-append old.queue.items (c.args.waiter ∷ []) in
    kept_after _ _ _ _ _ _ c.self.invariant _ c.self.view_is c.args.i c.requires.own old c.index_mut-word.ensures.value c.ask.new.self _
    (ap (λ (w : LockWord). w.queue.capacity) c.ask.ensures) (omega (arith, long))
    (few_left _ _ _ _ _ _ c.self.invariant _ c.self.view_is c.args.i c.requires.own old c.index_mut-word.ensures.value c.requires.room)

pub returns : goal.returns
returns c =
    after _ _ _ _ _ _ c.self.invariant _ c.self.view_is c.args.i c.requires.own c.index_mut-word.result.now c.index_mut-word.ensures.value c.ask.new.self _
    (ap lock_of c.ask.ensures
    ∙ ap (asked c.args.waiter) (lock_is _ _ _ _ _ _ c.self.invariant _ c.self.view_is c.args.i c.requires.own c.index_mut-word.result.now c.index_mut-word.ensures.value))
