use Rattle.std.proofs.Common.{ℕ, ◌<◌, slice_index, slice_index_or}
use Rattle.round_run.specs.Progress.{NoProgress}
use Rattle.round_run.proofs.progress.Marks.are_passed.Given as goal

abbrev pub invariant-loop-cluster : goal.invariant-loop-cluster
invariant-loop-cluster g l = (c : ℕ) (d : _) → c < l.cluster → NoProgress (slice_index l.self.0 c) (slice_index_or l.units c d).core.log
