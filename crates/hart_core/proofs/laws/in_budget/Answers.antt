use Rattle.hart_core.proofs.Needed.{in_budget}
use Rattle.hart_core.proofs.laws.in_budget.Goals as goal

pub returns : goal.returns
returns c = in_budget
