use Rattle.std.proofs.Common.{◌==◌, if◌then◌else◌}
use Rattle.snoop_bus.specs.Caches.{caches_without}
use Rattle.snoop_bus.proofs.Loops.{SoFar}
use Rattle.snoop_bus.proofs.harts.clear_others.Given as goal

abbrev pub invariant-loop-other : goal.invariant-loop-other
invariant-loop-other l = SoFar (λ k h. if k == l.hart then h else caches_without h l.line.0) l.fn.harts l.harts l.other
