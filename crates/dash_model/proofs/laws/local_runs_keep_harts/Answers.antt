use Rattle.dash_model.proofs.LocalHarts.{local_runs_keep_harts}
use Rattle.dash_model.proofs.laws.local_runs_keep_harts.Goals as goal

pub returns : goal.returns
returns c = local_runs_keep_harts
