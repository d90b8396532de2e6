use Rattle.unit_rows.specs.Shown.{config, shown}
use Rattle.unit_rows.proofs.BusRows.{reads_from_bus, sized_read}
use Rattle.unit_rows.proofs.bus.bus_read.Goals as goal

pub returns-clause-did : goal.returns-clause-did
returns-clause-did c =
    reads_from_bus (config c.args.site.now) c.args.site.now.cluster.0 c.args.hart (shown c.args.parts.now) c.hart_id.result c.args.line c.bus_read.new.self
    c.requires.hart c.requires.sized c.keeps_one_map.ensures (c.fits_bus_read.ensures.fits c.if-not-fits_bus_read.false) c.hart_id.ensures c.bus_read.ensures

pub returns-clause-sized : goal.returns-clause-sized
returns-clause-sized c =
    sized_read (config c.args.site.now) c.args.site.now.cluster.0 c.args.hart c.args.line.0 (shown c.args.parts.now) c.bus_read.new.self c.requires.sized c.bus_read.ensures
