use Rattle.std.proofs.Common.{ℕ, ◌<◌, slice_index_or}
use Rattle.round_run.specs.Stamps.{EndsBelow}
use Rattle.round_run.proofs.stamps.check_stamps.Given as goal

abbrev pub invariant-loop-unit : goal.invariant-loop-unit
invariant-loop-unit g l = (c : ℕ) (d : _) → c < l.unit-index → EndsBelow (slice_index_or l.units c d).core.log
