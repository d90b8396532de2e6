use Rattle.std.proofs.Common.{◌≡◌, drop}
use Rattle.snoop_bus.specs.Shared.{gathered_copy}
use Rattle.snoop_bus.proofs.harts.copy.Given as goal

abbrev pub invariant-loop-caches : goal.invariant-loop-caches
invariant-loop-caches l = gathered_copy l.harts l.line.0 ≡ gathered_copy (drop l.caches-index l.harts) l.line.0
