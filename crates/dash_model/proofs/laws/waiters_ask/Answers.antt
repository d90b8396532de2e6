use Rattle.dash_model.proofs.RunEnds.{waiters_ask}
use Rattle.dash_model.proofs.laws.waiters_ask.Goals as goal

pub returns : goal.returns
returns c = waiters_ask
