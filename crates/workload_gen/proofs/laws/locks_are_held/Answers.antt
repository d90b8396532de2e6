use Rattle.workload_gen.proofs.LockWords.{locks_are_held}
use Rattle.workload_gen.proofs.laws.locks_are_held.Goals as goal

pub returns : goal.returns
returns c = locks_are_held
