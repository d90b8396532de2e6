use Rattle.hart_core.proofs.Unique.{one_after}
use Rattle.hart_core.proofs.laws.one_after.Goals as goal

pub returns : goal.returns
returns c = one_after
