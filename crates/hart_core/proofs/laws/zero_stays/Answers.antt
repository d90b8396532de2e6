use Rattle.hart_core.proofs.Needed.{zero_stays}
use Rattle.hart_core.proofs.laws.zero_stays.Goals as goal

pub returns : goal.returns
returns c = zero_stays
