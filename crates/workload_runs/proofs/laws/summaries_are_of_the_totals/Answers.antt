use Rattle.workload_runs.proofs.Summaries.{summaries_are_of_the_totals}
use Rattle.workload_runs.proofs.laws.summaries_are_of_the_totals.Goals as goal

pub returns : goal.returns
returns c = summaries_are_of_the_totals
