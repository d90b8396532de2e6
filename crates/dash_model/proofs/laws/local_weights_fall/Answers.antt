use Rattle.dash_model.proofs.LocalWeights.{local_weights_fall}
use Rattle.dash_model.proofs.laws.local_weights_fall.Goals as goal

pub returns : goal.returns
returns c = local_weights_fall
