use Rattle.trace_merge.proofs.RunEnds.{complete_runs_are_complete}
use Rattle.trace_merge.proofs.laws.complete_runs_are_complete.Goals as goal

pub returns : goal.returns
returns c = complete_runs_are_complete
