use Rattle.trace_text.proofs.NotRefused.{texts_of_logs_are_read}
use Rattle.trace_text.proofs.laws.texts_of_logs_are_read.Goals as goal

pub returns : goal.returns
returns c = texts_of_logs_are_read
