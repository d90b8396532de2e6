use Rattle.std.proofs.Common.{ℕ, ◌<◌, ◌≤◌}
use Rattle.unit_rows.specs.declared.choice.Choice.TheVariants.{Grant}
use Rattle.unit_rows.specs.Rows.{Cannot}
use Rattle.unit_rows.specs.Shown.{config, shown}
use Rattle.cluster_unit.proofs.first_settling.first_grant.Given as goal

-- none so far is enabled
abbrev pub invariant-loop-number : goal.invariant-loop-number
invariant-loop-number l = ((i : ℕ) → i < l.number → Cannot (config l.site) l.site.cluster.0 (shown l.parts) (Grant i)) × (l.number ≤ l.site.topology.locks)
