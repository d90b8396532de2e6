use Rattle.dash_model.proofs.OwedFacts.{runs_owe_as_logged}
use Rattle.dash_model.proofs.laws.runs_owe_as_logged.Goals as goal

pub returns : goal.returns
returns c = runs_owe_as_logged
