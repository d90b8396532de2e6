use Rattle.flat_model.proofs.Reservations.{cond_may_succeed}
use Rattle.flat_model.proofs.laws.conds_may_succeed.Goals as goal

pub returns : goal.returns
returns c = cond_may_succeed
