use Rattle.queue_lock.proofs.Counted.{waiters_are_counted}
use Rattle.queue_lock.proofs.laws.waiters_are_counted.Goals as goal

pub returns : goal.returns
returns c = waiters_are_counted
