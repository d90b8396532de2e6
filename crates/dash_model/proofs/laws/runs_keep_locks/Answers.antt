use Rattle.dash_model.proofs.Asking.{runs_keep_locks}
use Rattle.dash_model.proofs.laws.runs_keep_locks.Goals as goal

pub returns : goal.returns
returns c = runs_keep_locks
