use Rattle.dash_model.proofs.RunEnds.{locks_have_last_uses}
use Rattle.dash_model.proofs.laws.locks_have_last_uses.Goals as goal

pub returns : goal.returns
returns c = locks_have_last_uses
