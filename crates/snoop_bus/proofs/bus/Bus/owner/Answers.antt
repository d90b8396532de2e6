use Rattle.std.proofs.Common.{ap, ◌∙◌, sym}
use Rattle.snoop_bus.specs.Holding.{owner_in}
use Rattle.snoop_bus.specs.View.{BusView, owner_at}
use Rattle.snoop_bus.specs.Shared.{gathered_owner}
use Rattle.snoop_bus.proofs.OnBus.{owner-gathered}
use Rattle.snoop_bus.proofs.Table.{holding_at-bus_of}
use Rattle.snoop_bus.proofs.bus.Bus.owner.Goals as goal

pub returns : goal.returns
returns c =
    let line = c.args.line.0 in
    c.owner.ensures
    ∙ ap (λ hs. gathered_owner 0 hs line) c.deref.ensures.value
    ∙ sym (owner-gathered c.self.inside.harts.items line c.self.invariant)
    ∙ ap owner_in (sym (holding_at-bus_of c.self.inside.harts.items line))
    ∙ ap (λ (b : BusView). owner_at b line) c.self.view_is
