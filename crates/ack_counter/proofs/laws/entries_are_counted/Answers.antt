use Rattle.ack_counter.proofs.Counts.{entries_are_counted}
use Rattle.ack_counter.proofs.laws.entries_are_counted.Goals as goal

pub returns : goal.returns
returns c = entries_are_counted
