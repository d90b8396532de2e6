use Rattle.std.proofs.Common.{◌≡◌, drop}
use Rattle.snoop_bus.specs.Shared.{gathered_owner}
use Rattle.snoop_bus.proofs.harts.owner.Given as goal

abbrev pub invariant-loop-hart : goal.invariant-loop-hart
invariant-loop-hart l = gathered_owner 0 l.harts l.line.0 ≡ gathered_owner l.hart (drop l.hart l.harts) l.line.0
