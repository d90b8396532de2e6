use Rattle.std.proofs.Common.{◌≡◌, ℕ, ◌<◌, length, slice_index_or}
use Rattle.trace_merge.proofs.merger.Merger.new.Given as goal

abbrev pub invariant-loop-cluster : goal.invariant-loop-cluster
invariant-loop-cluster l = (length l.taken.items ≡ l._cluster) × ((c : ℕ) → c < length l.taken.items → slice_index_or l.taken.items c 0 ≡ 0)
