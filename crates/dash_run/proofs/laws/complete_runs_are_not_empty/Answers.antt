use Rattle.dash_run.proofs.Runs.{not_empty}
use Rattle.dash_run.proofs.laws.complete_runs_are_not_empty.Goals as goal

pub returns : goal.returns
returns c = not_empty
