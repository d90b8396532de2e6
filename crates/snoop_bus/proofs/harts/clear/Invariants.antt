use Rattle.snoop_bus.specs.Caches.{caches_without}
use Rattle.snoop_bus.proofs.Loops.{SoFar}
use Rattle.snoop_bus.proofs.harts.clear.Given as goal

abbrev pub invariant-loop-each : goal.invariant-loop-each
invariant-loop-each l = SoFar (λ k h. caches_without h l.line.0) l.fn.harts l.harts l.each-index
