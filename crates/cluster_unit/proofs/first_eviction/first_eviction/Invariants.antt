use Rattle.std.proofs.Common.{ℕ, ◌<◌, ◌≤◌}
use Rattle.dash_base.specs.declared.id.LineId.{LineId}
use Rattle.unit_rows.specs.declared.choice.Choice.TheVariants.{Evict}
use Rattle.unit_rows.specs.Shown.{config, shown}
use Rattle.cluster_unit.specs.Searching.{CannotSettle}
use Rattle.cluster_unit.proofs.first_eviction.first_eviction.Given as goal

-- no hart so far may give up a line in the way
abbrev pub invariant-loop-hart : goal.invariant-loop-hart
invariant-loop-hart l = ((h : ℕ) → h < l.hart → (m : LineId) → CannotSettle (config l.site) l.site.cluster.0 (shown l.parts) (Evict h m)) × (l.hart ≤ l.site.topology.harts)
