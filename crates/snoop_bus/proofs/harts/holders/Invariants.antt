use Rattle.std.proofs.Common.{◌≡◌, take}
use Rattle.snoop_bus.specs.Shared.{gathered_holders}
use Rattle.snoop_bus.proofs.harts.holders.Given as goal

abbrev pub invariant-loop-hart : goal.invariant-loop-hart
invariant-loop-hart l = l.holders ≡ gathered_holders (take l.hart l.harts) l.line.0
