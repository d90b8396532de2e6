use Rattle.hart_core.proofs.Needed.{never_rest}
use Rattle.hart_core.proofs.laws.never_rest.Goals as goal

pub returns : goal.returns
returns c = never_rest
