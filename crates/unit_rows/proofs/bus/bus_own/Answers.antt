use Rattle.unit_rows.specs.Shown.{config, shown}
use Rattle.unit_rows.proofs.Swept.{swept_back}
use Rattle.unit_rows.proofs.BusRows.{owns_from_bus, sized_own}
use Rattle.unit_rows.proofs.bus.bus_own.Goals as goal

pub returns-clause-did : goal.returns-clause-did
returns-clause-did c =
    let w = config c.args.site.now in
    let are = swept_back w c.args.line.0 c.holders-before.result c.holders-after.result c.args.parts.now.locals c.deref_mut.result.now c.sweep.new.locals c.deref_mut.ensures.value c.deref_mut.ensures.len c.sweep.ensures in
    owns_from_bus w c.args.site.now.cluster.0 c.args.hart c.holders-before.result c.holders-after.result (shown c.args.parts.now) c.hart_id.result c.args.line c.bus_own.new.self _
    c.requires.hart c.requires.sized c.keeps_one_map.ensures (c.fits_bus_own.ensures.fits c.if-not-fits_bus_own.false) c.hart_id.ensures c.bus_own.ensures c.holders-before.ensures c.holders-after.ensures are

pub returns-clause-sized : goal.returns-clause-sized
returns-clause-sized c =
    let w = config c.args.site.now in
    let are = swept_back w c.args.line.0 c.holders-before.result c.holders-after.result c.args.parts.now.locals c.deref_mut.result.now c.sweep.new.locals c.deref_mut.ensures.value c.deref_mut.ensures.len c.sweep.ensures in
    sized_own w c.args.site.now.cluster.0 c.args.hart c.args.line.0 c.holders-before.result c.holders-after.result (shown c.args.parts.now) c.bus_own.new.self _ c.requires.sized c.bus_own.ensures are
