use Rattle.dash_run.proofs.HostCalls.{usage_calls}
use Rattle.dash_run.proofs.laws.usage_makes_one_call.Goals as goal

pub returns : goal.returns
returns c = usage_calls
