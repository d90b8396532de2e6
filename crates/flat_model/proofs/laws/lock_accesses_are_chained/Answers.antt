use Rattle.flat_model.proofs.Seen.{locks_chained}
use Rattle.flat_model.proofs.laws.lock_accesses_are_chained.Goals as goal

pub returns : goal.returns
returns c = locks_chained
