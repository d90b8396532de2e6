use Rattle.dash_run.proofs.Converses.{no_topology_status}
use Rattle.dash_run.proofs.laws.bad_topology_is_told.Goals as goal

pub returns : goal.returns
returns c = λ call q inputs. no_topology_status _ _ _ _ _ _ _ _ q inputs call.ends
