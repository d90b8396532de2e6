use Rattle.std.proofs.Common.{ℕ, ◌<◌, ◌≤◌, slice_index_or}
use Rattle.dash_model.specs.Config.{line_id}
use Rattle.unit_rows.specs.declared.choice.Choice.TheVariants.{Evict}
use Rattle.unit_rows.specs.Shown.{config, shown}
use Rattle.cluster_unit.specs.Searching.{CannotSettle}
use Rattle.cluster_unit.proofs.first_eviction.first_line.Given as goal

-- no line so far is in the way and may be given up
abbrev pub invariant-loop-line : goal.invariant-loop-line
invariant-loop-line l =
    ((i : ℕ) → i < l.line-index → CannotSettle (config l.site) l.site.cluster.0 (shown l.parts) (Evict l.hart (line_id (slice_index_or l.lines i 0)))) × (l.line-index ≤ l.line-index-end)
