use Rattle.std.proofs.Common.{◌+◌, length, ap, sym, ◌∙◌}
use Rattle.queue_lock.specs.declared.word.LockWord.{LockWord}
use Rattle.queue_lock.specs.View.{Lock}
use Rattle.queue_lock.specs.Steps.{freed}
use Rattle.queue_lock.specs.Kept.{lock_of}
use Rattle.queue_lock.proofs.Changing.{lock_is, after, kept_after}
use Rattle.queue_lock.proofs.locks.Locks.free.Goals as goal

pub invariant_of-self : goal.invariant_of-self
invariant_of-self c =
    kept_after _ _ _ _ _ _ c.self.invariant _ c.self.view_is c.args.i c.requires c.index_mut-word.result.now c.index_mut-word.ensures.value c.free.new.self _
    (ap (λ (w : LockWord). w.queue.capacity) c.free.ensures.after)
    (ap (λ (w : LockWord). c.self.inside.waiting + length w.queue.items) (sym c.free.ensures.after))
    c.self.invariant.few

pub returns-clause-old : goal.returns-clause-old
returns-clause-old c =
    c.free.ensures.value
    ∙ ap (λ (l : Lock). l.value) (lock_is _ _ _ _ _ _ c.self.invariant _ c.self.view_is c.args.i c.requires c.index_mut-word.result.now c.index_mut-word.ensures.value)

pub returns-clause-after : goal.returns-clause-after
returns-clause-after c =
    after _ _ _ _ _ _ c.self.invariant _ c.self.view_is c.args.i c.requires c.index_mut-word.result.now c.index_mut-word.ensures.value c.free.new.self _
    (ap lock_of c.free.ensures.after
    ∙ ap freed (lock_is _ _ _ _ _ _ c.self.invariant _ c.self.view_is c.args.i c.requires c.index_mut-word.result.now c.index_mut-word.ensures.value))
