-- The harts so far have added what they add.
use Rattle.std.proofs.Common.{◌≡◌, ◌≤◌, ◌<◌, ◌*◌, ℕ, length, slice_index}
use Rattle.workload_gen.specs.Workload.{added, counters, sum_below, turns}
use Rattle.workload_gen.proofs.additions.totals.Given as goal

abbrev pub invariant-loop-hart : goal.invariant-loop-hart
invariant-loop-hart l =
    (length l.totals.items ≡ counters)
    × ((k : ℕ) → k < counters → slice_index l.totals.items k ≡ sum_below (λ h. added l.seed k h turns) l.hart)
    × ((k : ℕ) → k < counters → slice_index l.totals.items k ≤ l.hart * 119340)
