use Rattle.hart_core.proofs.Unique.{one_need}
use Rattle.hart_core.proofs.laws.one_need.Goals as goal

pub returns : goal.returns
returns c = one_need
