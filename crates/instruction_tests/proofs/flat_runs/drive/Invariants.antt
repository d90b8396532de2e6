use Rattle.std.proofs.Common.{◌<◌, All}
use Rattle.instruction_tests.proofs.flat_runs.drive.Given as goal

-- only two harts are listed
abbrev pub invariant-turns : goal.invariant-turns
invariant-turns l = All (λ h. h.0 < 2) l.harts.items
