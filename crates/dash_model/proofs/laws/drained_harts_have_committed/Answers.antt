use Rattle.dash_model.proofs.RunEnds.{drained_harts_have_committed}
use Rattle.dash_model.proofs.laws.drained_harts_have_committed.Goals as goal

pub returns : goal.returns
returns c = drained_harts_have_committed
