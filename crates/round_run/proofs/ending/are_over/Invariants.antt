use Rattle.std.proofs.Common.{ℕ, ◌<◌, slice_index_or}
use Rattle.round_run.specs.Ending.{IsOver}
use Rattle.round_run.proofs.ending.are_over.Given as goal

abbrev pub invariant-loop-unit : goal.invariant-loop-unit
invariant-loop-unit g l = (c : ℕ) (d : _) → c < l.unit-index → IsOver l.topology (slice_index_or l.units c d).core
