use Rattle.dash_model.proofs.Prefix.{events_happen}
use Rattle.dash_model.proofs.laws.events_happen.Goals as goal

pub returns : goal.returns
returns c = events_happen
