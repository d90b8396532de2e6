use Rattle.dash_run.proofs.HostCalls.{run_calls}
use Rattle.dash_run.proofs.laws.runs_load_and_print.Goals as goal

pub returns : goal.returns
returns c = run_calls
