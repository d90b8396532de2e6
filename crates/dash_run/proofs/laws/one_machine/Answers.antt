use Rattle.dash_run.proofs.Theorem.{one_asked}
use Rattle.dash_run.proofs.laws.one_machine.Goals as goal

pub returns : goal.returns
returns c = one_asked
