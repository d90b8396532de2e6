use Rattle.dash_model.proofs.LockFacts.{cases_apply}
use Rattle.dash_model.proofs.laws.cases_apply.Goals as goal

pub returns : goal.returns
returns c = cases_apply
