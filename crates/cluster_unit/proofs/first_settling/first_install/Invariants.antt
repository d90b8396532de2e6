use Rattle.std.proofs.Common.{ℕ, ◌<◌, ◌≤◌}
use Rattle.remote_cache.specs.View.{count}
use Rattle.unit_rows.specs.declared.choice.Choice.TheVariants.{Install}
use Rattle.unit_rows.specs.Rows.{Cannot}
use Rattle.unit_rows.specs.Shown.{config, shown}
use Rattle.cluster_unit.proofs.first_settling.first_install.Given as goal

-- none so far is enabled
abbrev pub invariant-loop-slot : goal.invariant-loop-slot
invariant-loop-slot l = ((i : ℕ) → i < l.slot → Cannot (config l.site) l.site.cluster.0 (shown l.parts) (Install i)) × (l.slot ≤ count l.parts.slots)
