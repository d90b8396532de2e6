use Rattle.dash_model.proofs.RunEnds.{settled_runs_are_replayed}
use Rattle.dash_model.proofs.laws.settled_runs_are_replayed.Goals as goal

pub returns : goal.returns
returns c = settled_runs_are_replayed
