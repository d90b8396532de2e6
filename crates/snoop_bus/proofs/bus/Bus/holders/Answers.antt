use Rattle.std.proofs.Common.{ap, ◌∙◌, sym}
use Rattle.snoop_bus.specs.Holding.{holders_in}
use Rattle.snoop_bus.specs.View.{BusView, holders_at}
use Rattle.snoop_bus.specs.Shared.{gathered_holders}
use Rattle.snoop_bus.proofs.OnBus.{holders-gathered}
use Rattle.snoop_bus.proofs.Table.{holding_at-bus_of}
use Rattle.snoop_bus.proofs.bus.Bus.holders.Goals as goal

pub returns : goal.returns
returns c =
    let line = c.args.line.0 in
    c.holders.ensures
    ∙ ap (λ hs. gathered_holders hs line) c.deref.ensures.value
    ∙ sym (holders-gathered c.self.inside.harts.items line c.self.invariant)
    ∙ ap holders_in (sym (holding_at-bus_of c.self.inside.harts.items line))
    ∙ ap (λ (b : BusView). holders_at b line) c.self.view_is
