use Rattle.hart_core.proofs.Needed.{retires}
use Rattle.hart_core.proofs.laws.retires.Goals as goal

pub returns : goal.returns
returns c = retires
