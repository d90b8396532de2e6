use Rattle.workload_runs.proofs.Summaries.{contents_are_last_stored}
use Rattle.workload_runs.proofs.laws.contents_are_last_stored.Goals as goal

pub returns : goal.returns
returns c = contents_are_last_stored
