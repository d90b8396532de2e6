use Rattle.dash_model.proofs.RunsAdmissible.{runs_are_admissible}
use Rattle.dash_model.proofs.laws.runs_are_admissible.Goals as goal

pub returns : goal.returns
returns c = runs_are_admissible
