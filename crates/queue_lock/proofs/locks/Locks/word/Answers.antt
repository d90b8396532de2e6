use Rattle.queue_lock.proofs.Changing.{lock_is}
use Rattle.queue_lock.proofs.locks.Locks.word.Goals as goal

pub returns : goal.returns
returns c =
    lock_is _ _ _ _ _ _ c.self.invariant _ c.self.view_is c.args.i c.requires c.index.result.now c.index.ensures
