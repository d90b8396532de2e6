use Rattle.trace_merge.proofs.Consoles.{console_is}
use Rattle.trace_merge.proofs.laws.console_is_the_runs.Goals as goal

pub returns : goal.returns
returns c = console_is
