use Rattle.ack_counter.proofs.Lines.{calls_keep_other_lines}
use Rattle.ack_counter.proofs.laws.calls_keep_other_lines.Goals as goal

pub returns : goal.returns
returns c = calls_keep_other_lines
