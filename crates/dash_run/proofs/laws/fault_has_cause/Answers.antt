use Rattle.dash_run.proofs.Causes.{fault_cause}
use Rattle.dash_run.proofs.laws.fault_has_cause.Goals as goal

pub returns : goal.returns
returns c = λ call. fault_cause _ _ _ _ _ _ _ _ call.ends
