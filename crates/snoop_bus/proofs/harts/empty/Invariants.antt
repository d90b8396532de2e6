use Rattle.std.proofs.Common.{◌≡◌, replicate}
use Rattle.snoop_bus.specs.Caches.{no_caches}
use Rattle.snoop_bus.proofs.harts.empty.Given as goal

abbrev pub invariant-loop : goal.invariant-loop
invariant-loop l = l.all.items ≡ replicate l.counter (no_caches l.l1 l.l2)
