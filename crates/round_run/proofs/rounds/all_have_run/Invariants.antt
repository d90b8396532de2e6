use Rattle.std.proofs.Common.{ℕ, ◌<◌, slice_index_or}
use Rattle.cluster_unit.specs.Core.{HasRun}
use Rattle.round_run.proofs.rounds.all_have_run.Given as goal

abbrev pub invariant-loop-unit : goal.invariant-loop-unit
invariant-loop-unit g l = (c : ℕ) (d : _) → c < l.unit-index → HasRun (slice_index_or l.units c d).core
