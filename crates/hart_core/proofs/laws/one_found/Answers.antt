use Rattle.hart_core.proofs.Unique.{one_found}
use Rattle.hart_core.proofs.laws.one_found.Goals as goal

pub returns : goal.returns
returns c = one_found
