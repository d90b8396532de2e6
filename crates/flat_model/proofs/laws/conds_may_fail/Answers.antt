use Rattle.flat_model.proofs.Steps.{cond_may_fail}
use Rattle.flat_model.proofs.laws.conds_may_fail.Goals as goal

pub returns : goal.returns
returns c = cond_may_fail
