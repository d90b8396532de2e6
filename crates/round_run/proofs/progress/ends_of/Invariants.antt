use Rattle.std.proofs.Common.{◌≡◌, ℕ, ◌<◌, length, slice_index, slice_index_or}
use Rattle.round_run.proofs.progress.ends_of.Given as goal

abbrev pub invariant-loop-cluster : goal.invariant-loop-cluster
invariant-loop-cluster g l = record {
  count : length l.lengths ≡ 16;
  ends : (c : ℕ) (d : _) → c < l.cluster → slice_index l.lengths c ≡ length (slice_index_or l.units c d).core.log;
}
