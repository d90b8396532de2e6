use Rattle.std.proofs.Common.{ℕ, ◌<◌, map}
use Rattle.trace_merge.specs.MergedLogs.{log_of}
use Rattle.trace_merge.specs.Settled.{last_stamp, IsBeforeNext}
use Rattle.trace_merge.proofs.taking.is_settled.Given as goal

abbrev pub invariant-loop-cluster : goal.invariant-loop-cluster
invariant-loop-cluster g l = (c : ℕ) → c < l.cluster → IsBeforeNext (last_stamp (log_of (map g.L.Logged.log l.logs) c)) c l.event
