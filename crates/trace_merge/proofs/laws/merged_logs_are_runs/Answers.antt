use Rattle.trace_merge.proofs.MergedLogs.{merged_logs_are_runs}
use Rattle.trace_merge.proofs.laws.merged_logs_are_runs.Goals as goal

pub returns : goal.returns
returns c = merged_logs_are_runs
