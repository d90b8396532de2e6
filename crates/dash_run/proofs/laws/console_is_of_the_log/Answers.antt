use Rattle.dash_run.proofs.Runs.{console_is}
use Rattle.dash_run.proofs.laws.console_is_of_the_log.Goals as goal

pub returns : goal.returns
returns c = console_is
