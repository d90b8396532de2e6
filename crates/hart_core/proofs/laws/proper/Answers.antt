use Rattle.hart_core.proofs.Needed.{proper}
use Rattle.hart_core.proofs.laws.proper.Goals as goal

pub returns : goal.returns
returns c = proper
