use Rattle.flat_model.proofs.Steps.{one_more_step}
use Rattle.flat_model.proofs.laws.runs_go_on.Goals as goal

pub returns : goal.returns
returns c = λ image t rs old run h r new s. one_more_step image t _ rs old run h r new s
