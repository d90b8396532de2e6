use Rattle.dash_model.proofs.Falls.{weight_falls}
use Rattle.dash_model.proofs.laws.weight_falls.Goals as goal

pub returns : goal.returns
returns c = weight_falls
