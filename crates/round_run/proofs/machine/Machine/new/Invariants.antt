use Rattle.std.proofs.Common.{◌≡◌, ℕ, ◌<◌, length, drop, Some, slice_index_or}
use Rattle.round_run.proofs.machine.Machine.new.Given as goal

abbrev pub invariant-loop-cluster : goal.invariant-loop-cluster
invariant-loop-cluster g l = record {
  count : length l.chosen.items ≡ l._cluster;
  chosen : (c : ℕ) (d b : _) → c < l._cluster → slice_index_or l.chosen.items c d ≡ Some (slice_index_or l.fn.arbiters.items c b);
  arbiters : l.arbiters.items ≡ drop l._cluster l.fn.arbiters.items;
}
