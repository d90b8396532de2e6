use Rattle.cluster_unit.specs.Fresh.{AreLanes}
use Rattle.cluster_unit.proofs.fresh_lanes.Lanes.new.Given as goal

abbrev pub invariant-loop-source : goal.invariant-loop-source
invariant-loop-source l = AreLanes (λ v. v.items) (λ v. v.items) l.source l.clusters l.lanes.outlets.items l.lanes.inlets.items
