use Rattle.flat_model.proofs.Reservations.{conds_reserved}
use Rattle.flat_model.proofs.laws.conds_are_reserved.Goals as goal

pub returns : goal.returns
returns c = conds_reserved
