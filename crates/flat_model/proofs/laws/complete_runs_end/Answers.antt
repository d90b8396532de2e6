use Rattle.flat_model.proofs.Steps.{no_step_after}
use Rattle.flat_model.proofs.laws.complete_runs_end.Goals as goal

pub returns : goal.returns
returns c = no_step_after
