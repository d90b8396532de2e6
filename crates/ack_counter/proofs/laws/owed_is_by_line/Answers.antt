use Rattle.ack_counter.proofs.Counts.{owed_is_by_line}
use Rattle.ack_counter.proofs.laws.owed_is_by_line.Goals as goal

pub returns : goal.returns
returns c = owed_is_by_line
