use Rattle.std.proofs.Common.{◌≡◌, ℕ, ◌<◌, length, slice_index_or}
use Rattle.cluster_unit.specs.Fresh.{AreUntaken}
use Rattle.cluster_unit.proofs.fresh_lanes.no_inlets.Given as goal

abbrev pub invariant-loop-cluster : goal.invariant-loop-cluster
invariant-loop-cluster l = (length l.inlets.items ≡ l._cluster) × ((c : ℕ) (d : _) → c < l._cluster → AreUntaken 0 (slice_index_or l.inlets.items c d).items)
