use Rattle.std.proofs.Common.{ap, ◌∙◌, sym}
use Rattle.snoop_bus.specs.Holding.{copy_in}
use Rattle.snoop_bus.specs.View.{BusView, copy_of}
use Rattle.snoop_bus.specs.Shared.{gathered_copy}
use Rattle.snoop_bus.proofs.OnBus.{copy-gathered}
use Rattle.snoop_bus.proofs.Table.{holding_at-bus_of}
use Rattle.snoop_bus.proofs.bus.Bus.peek.Goals as goal

pub returns : goal.returns
returns c =
    let line = c.args.line.0 in
    c.copy.ensures
    ∙ ap (λ hs. gathered_copy hs line) c.deref.ensures.value
    ∙ sym (copy-gathered c.self.inside.harts.items line)
    ∙ ap copy_in (sym (holding_at-bus_of c.self.inside.harts.items line))
    ∙ ap (λ (b : BusView). copy_of b line) c.self.view_is
