use Rattle.std.proofs.Common.{ap, ◌∙◌}
use Rattle.snoop_bus.specs.Shared.{bus_of}
use Rattle.snoop_bus.proofs.OnBus.{fresh_one_map, fresh_bus}
use Rattle.snoop_bus.proofs.bus.Bus.new.Goals as goal

pub invariant_of-result : goal.invariant_of-result
invariant_of-result c =
    let t = c.args.topology.now in
    rw c.in_ok-empty.ensures (fresh_one_map t.harts t.l1 t.l2 t.harts_in_range.low t.harts_in_range.high)

pub returns : goal.returns
returns c =
    let t = c.args.topology.now in
    ap bus_of c.in_ok-empty.ensures ∙ fresh_bus t.harts t.l1 t.l2 t.harts_in_range.low
