use Rattle.flat_model.proofs.Seen.{memory_at_end}
use Rattle.flat_model.proofs.laws.memory_has_last_writes.Goals as goal

pub returns : goal.returns
returns c = memory_at_end
