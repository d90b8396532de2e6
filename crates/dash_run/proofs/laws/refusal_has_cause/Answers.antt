use Rattle.dash_run.proofs.Causes.{refused_cause}
use Rattle.dash_run.proofs.laws.refusal_has_cause.Goals as goal

pub returns : goal.returns
returns c = λ call. refused_cause _ _ _ _ _ _ _ _ call.ends
