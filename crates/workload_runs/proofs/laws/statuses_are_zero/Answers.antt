use Rattle.workload_runs.proofs.Summaries.{statuses_are_zero}
use Rattle.workload_runs.proofs.laws.statuses_are_zero.Goals as goal

pub returns : goal.returns
returns c = statuses_are_zero
