use Rattle.dash_run.proofs.Runs.{left_waits}
use Rattle.dash_run.proofs.laws.harts_that_are_left_wait.Goals as goal

pub returns : goal.returns
returns c = left_waits
