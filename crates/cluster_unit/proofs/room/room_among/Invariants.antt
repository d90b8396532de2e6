use Rattle.std.proofs.Common.{ℕ, ◌<◌, ◌≤◌, slice_index_or}
use Rattle.dash_model.specs.Config.{line_id}
use Rattle.unit_rows.specs.Shown.{config, shown}
use Rattle.cluster_unit.specs.SerialSearch.{CannotMake}
use Rattle.cluster_unit.proofs.room.room_among.Given as goal

-- no line so far is in the way and may be given up
abbrev pub invariant-loop-line : goal.invariant-loop-line
invariant-loop-line l =
    ((i : ℕ) → i < l.line-index → CannotMake l.cause (config l.site) l.site.cluster.0 (shown l.parts) l.hart (line_id (slice_index_or l.lines i 0))) × (l.line-index ≤ l.line-index-end)
