use Rattle.std.proofs.Common.{ap, arith}
use Rattle.snoop_bus.specs.View.{harts}
use Rattle.snoop_bus.proofs.Becomes.{harts-bus_of}
use Rattle.snoop_bus.proofs.bus.Bus.harts.Goals as goal

pub returns : goal.returns
returns c =
    let many = harts-bus_of c.self.inside.harts.items in
    let same = ap harts c.self.view_is in
    omega (arith, many, same)
