use Rattle.flat_model.proofs.Steps.{one_final}
use Rattle.flat_model.proofs.laws.runs_are_determined.Goals as goal

pub returns : goal.returns
returns c = λ image t rs a b run run'. one_final image t _ rs a b run run'
