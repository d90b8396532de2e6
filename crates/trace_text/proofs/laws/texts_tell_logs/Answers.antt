use Rattle.trace_text.proofs.Unique.{texts_tell_logs}
use Rattle.trace_text.proofs.laws.texts_tell_logs.Goals as goal

pub returns : goal.returns
returns c = texts_tell_logs
