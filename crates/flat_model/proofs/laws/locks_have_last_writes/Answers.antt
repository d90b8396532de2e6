use Rattle.flat_model.proofs.Seen.{locks_at_end}
use Rattle.flat_model.proofs.laws.locks_have_last_writes.Goals as goal

pub returns : goal.returns
returns c = locks_at_end
