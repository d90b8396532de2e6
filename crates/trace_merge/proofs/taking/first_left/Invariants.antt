use Rattle.std.proofs.Common.{map}
use Rattle.std.specs.Prelude.{MatchOption}
use Rattle.trace_merge.specs.Taking.{AllTaken, IsFirst}
use Rattle.trace_merge.proofs.taking.first_left.Given as goal

abbrev pub invariant-loop-cluster : goal.invariant-loop-cluster
invariant-loop-cluster g l = MatchOption l.first (AllTaken (map g.L.Logged.log l.logs) l.taken l.cluster) (IsFirst (map g.L.Logged.log l.logs) l.taken l.cluster)
