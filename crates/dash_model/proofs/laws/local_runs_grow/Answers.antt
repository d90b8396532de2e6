use Rattle.dash_model.proofs.Local.{local_runs_grow}
use Rattle.dash_model.proofs.laws.local_runs_grow.Goals as goal

pub returns : goal.returns
returns c = local_runs_grow
