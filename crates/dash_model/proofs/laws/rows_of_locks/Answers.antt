use Rattle.dash_model.proofs.TableLocks.{rows_of_locks}
use Rattle.dash_model.proofs.laws.rows_of_locks.Goals as goal

pub returns : goal.returns
returns c = rows_of_locks
