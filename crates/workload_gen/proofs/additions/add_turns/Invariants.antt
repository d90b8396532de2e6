-- The turns so far have added what they add, and no counter is past what they can add.
use Rattle.std.proofs.Common.{◌≡◌, ◌≤◌, ◌<◌, ◌+◌, ◌*◌, ℕ, length, slice_index}
use Rattle.workload_gen.specs.Workload.{added, counters, draw}
use Rattle.workload_gen.proofs.additions.add_turns.Given as goal

abbrev pub invariant-loop-turn : goal.invariant-loop-turn
invariant-loop-turn l =
    (length l.totals.items ≡ counters)
    × (l.number ≡ draw l.seed l.hart l._turn)
    × ((k : ℕ) → k < counters → slice_index l.totals.items k ≡ slice_index l.initial.totals.items k + added l.seed k l.hart l._turn)
    × ((k : ℕ) → k < counters → slice_index l.totals.items k ≤ l.hart * 119340 + l._turn * 255)
