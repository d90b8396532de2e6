use Rattle.dash_run.proofs.HostCalls.{stops_at_print}
use Rattle.dash_run.proofs.laws.nothing_after_failed_print.Goals as goal

pub returns : goal.returns
returns c = stops_at_print
