use Rattle.dash_model.proofs.LocalQueues.{local_runs_queue_at_home}
use Rattle.dash_model.proofs.laws.local_runs_queue_at_home.Goals as goal

pub returns : goal.returns
returns c = local_runs_queue_at_home
