use Rattle.trace_merge.proofs.Forwarding.{is_admissible}
use Rattle.trace_merge.proofs.laws.forwarding_is_admissible.Goals as goal

pub returns : goal.returns
returns c = is_admissible
