use Rattle.dash_run.proofs.Causes.{usage_cause}
use Rattle.dash_run.proofs.laws.usage_has_cause.Goals as goal

pub returns : goal.returns
returns c = λ call. usage_cause _ _ _ _ _ _ _ _ call.ends
