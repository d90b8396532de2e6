use Rattle.workload_runs.proofs.Summaries.{harts_are_done_in_runs}
use Rattle.workload_runs.proofs.laws.harts_are_done_in_runs.Goals as goal

pub returns : goal.returns
returns c = harts_are_done_in_runs
