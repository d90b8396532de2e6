use Rattle.std.proofs.Common.{ℕ, ◌≤◌, ◌<◌, slice_index_or}
use Rattle.mesh_lanes.specs.View.{OutletView}
use Rattle.cluster_unit.specs.Reserving.{HaveMore}
use Rattle.cluster_unit.proofs.reserve.reserve_ends.Given as goal

abbrev pub invariant-loop-outlet : goal.invariant-loop-outlet
invariant-loop-outlet l = HaveMore l.initial.outlet-items l.outlet-items × ((j : ℕ) (x : OutletView) → j < l.outlet-index → l.messages ≤ (slice_index_or l.outlet-items j x).spare)
