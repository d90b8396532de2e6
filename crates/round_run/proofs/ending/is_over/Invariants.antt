use Rattle.std.proofs.Common.{ℕ, ◌<◌}
use Rattle.dash_model.specs.Part.{Part}
use Rattle.unit_rows.specs.Shown.{hart_at}
use Rattle.cluster_unit.specs.Core.{IsAt}
use Rattle.round_run.specs.Ending.{IsStill}
use Rattle.round_run.proofs.ending.is_over.Given as goal

abbrev pub invariant-loop-hart : goal.invariant-loop-hart
invariant-loop-hart l = (p : Part) → IsAt l.core p → (k : ℕ) → k < l.hart → IsStill l.topology (p.harts (hart_at l.core.config l.core.cluster k))
