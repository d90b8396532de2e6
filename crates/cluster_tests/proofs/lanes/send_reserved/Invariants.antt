-- There is memory for the parcels that are left.
use Rattle.std.proofs.Common.{◌≡◌, ◌+◌, ◌≤◌}
use Rattle.cluster_tests.proofs.lanes.send_reserved.Given as goal

abbrev pub invariant-loop-number : goal.invariant-loop-number
invariant-loop-number l = (l.out.lane ≡ l.initial.out.lane) × (l.count ≤ l.number + l.out.spare)
