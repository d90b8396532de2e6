use Rattle.std.proofs.Common.{◌≡◌, length, map, take}
use Rattle.std.specs.List.{AllByRecursion}
use Rattle.trace_merge.specs.Settled.{StartsMerge, IsSettled}
use Rattle.trace_merge.specs.Taking.{AreTaken}
use Rattle.trace_merge.proofs.Takings.{left_in}
use Rattle.trace_merge.proofs.taking.take_settled.Given as goal

abbrev pub invariant-loop-event : goal.invariant-loop-event
invariant-loop-event g l =
    (length l.taken.items ≡ length l.logs)
    × (AreTaken l.done.items l.taken.items
    × (StartsMerge (map g.L.Logged.log l.logs) l.done.items
    × (AllByRecursion (IsSettled (map g.L.Logged.log l.logs)) l.done.items × (take (length l.initial.done.items) l.done.items ≡ l.initial.done.items))))

abbrev pub decreases-loop-event : goal.decreases-loop-event
decreases-loop-event g l = left_in (map g.L.Logged.log l.logs) l.taken.items
