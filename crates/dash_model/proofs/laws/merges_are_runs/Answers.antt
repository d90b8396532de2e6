use Rattle.dash_model.proofs.Merge.{merge_is_run}
use Rattle.dash_model.proofs.laws.merges_are_runs.Goals as goal

pub returns : goal.returns
returns c = merge_is_run
