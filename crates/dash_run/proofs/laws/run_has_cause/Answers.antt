use Rattle.dash_run.proofs.Causes.{run_cause}
use Rattle.dash_run.proofs.laws.run_has_cause.Goals as goal

pub returns : goal.returns
returns c = λ call. run_cause _ _ _ _ _ _ _ _ call.ends
