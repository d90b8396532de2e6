use Rattle.dash_model.proofs.LockCounts.{locks_are_counted}
use Rattle.dash_model.proofs.laws.locks_are_counted.Goals as goal

pub returns : goal.returns
returns c = locks_are_counted
