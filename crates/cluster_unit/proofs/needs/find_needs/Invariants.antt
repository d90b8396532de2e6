use Rattle.std.proofs.Common.{◌≤◌}
use Rattle.unit_rows.specs.Shown.{config, shown}
use Rattle.cluster_unit.specs.Needs.{AreAllNeeded}
use Rattle.cluster_unit.proofs.needs.find_needs.Given as goal

abbrev pub invariant-loop-hart : goal.invariant-loop-hart
invariant-loop-hart l = AreAllNeeded (config l.site) l.site.cluster.0 (shown l.parts) l.hart l.needs.items × (l.hart ≤ l.site.topology.harts)
