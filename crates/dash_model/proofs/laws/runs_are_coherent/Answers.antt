use Rattle.dash_model.proofs.RunsCoherent.{runs_are_coherent}
use Rattle.dash_model.proofs.laws.runs_are_coherent.Goals as goal

pub returns : goal.returns
returns c = runs_are_coherent
