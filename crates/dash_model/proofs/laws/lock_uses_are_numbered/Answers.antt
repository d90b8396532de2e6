use Rattle.dash_model.proofs.LockCounts.{lock_uses_numbered}
use Rattle.dash_model.proofs.laws.lock_uses_are_numbered.Goals as goal

pub returns : goal.returns
returns c = lock_uses_numbered
