use Rattle.std.proofs.Common.{◌<◌, All}
use Rattle.instruction_tests.proofs.workloads.first_hart.Given as goal

abbrev pub invariant-loop-turn : goal.invariant-loop-turn
invariant-loop-turn l = All (λ h. h.0 < 1) l.order.items
