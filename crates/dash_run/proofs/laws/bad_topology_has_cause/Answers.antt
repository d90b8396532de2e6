use Rattle.dash_run.proofs.Causes.{bad_topology_cause}
use Rattle.dash_run.proofs.laws.bad_topology_has_cause.Goals as goal

pub returns : goal.returns
returns c = λ call. bad_topology_cause _ _ _ _ _ _ _ _ call.ends
