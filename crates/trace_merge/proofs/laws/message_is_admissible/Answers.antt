use Rattle.trace_merge.proofs.Message.{is_admissible}
use Rattle.trace_merge.proofs.laws.message_is_admissible.Goals as goal

pub returns : goal.returns
returns c = is_admissible
