use Rattle.cluster_unit.proofs.FreshLanes.{SourceSoFar}
use Rattle.cluster_unit.proofs.fresh_lanes.add_source.Given as goal

abbrev pub invariant-loop-row : goal.invariant-loop-row
invariant-loop-row l = SourceSoFar (λ v. v.items) l.source l.row-index l.outlets.items l.fn.inlets l.row-items
