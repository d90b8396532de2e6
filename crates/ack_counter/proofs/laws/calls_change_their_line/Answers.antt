use Rattle.ack_counter.proofs.Lines.{calls_change_their_line}
use Rattle.ack_counter.proofs.laws.calls_change_their_line.Goals as goal

pub returns : goal.returns
returns c = calls_change_their_line
