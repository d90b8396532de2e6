use Rattle.std.proofs.Common.{◌≡◌, ◌≤◌, length}
use Rattle.directory.specs.Rows.{invalidations}
use Rattle.directory.proofs.rows.invalidations.Given as goal

-- those to the clusters so far
abbrev pub invariant-loop-cluster : goal.invariant-loop-cluster
invariant-loop-cluster l = (l.burst.items ≡ invalidations l.cluster l.line l.owner l.sharers) × (length l.burst.items ≤ l.cluster)
