use Rattle.snoop_bus.specs.Caches.{caches_shared}
use Rattle.snoop_bus.proofs.Loops.{SoFar}
use Rattle.snoop_bus.proofs.harts.disown.Given as goal

abbrev pub invariant-loop-caches : goal.invariant-loop-caches
invariant-loop-caches l = SoFar (λ k h. caches_shared h l.line.0) l.fn.harts l.harts l.caches-index
