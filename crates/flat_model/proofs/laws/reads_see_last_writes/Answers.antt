use Rattle.flat_model.proofs.Seen.{reads_see}
use Rattle.flat_model.proofs.laws.reads_see_last_writes.Goals as goal

pub returns : goal.returns
returns c = reads_see
