use Rattle.dash_model.proofs.Changes.{changes}
use Rattle.dash_model.proofs.laws.steps_change_one_part.Goals as goal

pub returns : goal.returns
returns c = changes
