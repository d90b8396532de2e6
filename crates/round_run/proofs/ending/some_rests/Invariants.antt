use Rattle.std.proofs.Common.{ℕ, ◌<◌, slice_index_or}
use Rattle.dash_model.specs.Part.{Part}
use Rattle.unit_rows.specs.Shown.{hart_at}
use Rattle.cluster_unit.specs.Core.{IsAt}
use Rattle.round_run.specs.Ending.{Has}
use Rattle.round_run.proofs.ending.some_rests.Given as goal

abbrev pub invariant-loop-unit : goal.invariant-loop-unit
invariant-loop-unit g l =
    (c k : ℕ) (d : _) (p : Part) → c < l.unit-index → k < l.topology.harts → IsAt (slice_index_or l.units c d).core p
    → Has l.rest l.topology (p.harts (hart_at (slice_index_or l.units c d).core.config (slice_index_or l.units c d).core.cluster k)) → ⊥

abbrev pub invariant-loop-hart : goal.invariant-loop-hart
invariant-loop-hart g l = (k : ℕ) (p : Part) → k < l.hart → IsAt l.unit.core p → Has l.rest l.topology (p.harts (hart_at l.unit.core.config l.unit.core.cluster k)) → ⊥
