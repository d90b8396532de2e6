use Rattle.std.proofs.Common.{take, ◌≡◌}
use Rattle.workload_runs.specs.Runs.{added_up}
use Rattle.workload_runs.proofs.summary.added_up.Given as goal

abbrev pub invariant-loop-count : goal.invariant-loop-count
invariant-loop-count l = l.total ≡ added_up (take l.count-index l.counts)
