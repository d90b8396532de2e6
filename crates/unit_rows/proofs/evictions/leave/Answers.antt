use Rattle.unit_rows.specs.Shown.{config, shown}
use Rattle.unit_rows.proofs.Swept.{swept_back}
use Rattle.unit_rows.proofs.EvictTold.{leaves, sized_leave}
use Rattle.unit_rows.proofs.evictions.leave.Goals as goal

pub returns-clause-did : goal.returns-clause-did
returns-clause-did c =
    let w = config c.args.site.now in
    let are = swept_back w c.args.line.0 c.holders-before.result c.holders-after.result c.args.parts.now.locals c.deref_mut.result.now c.sweep.new.locals c.deref_mut.ensures.value c.deref_mut.ensures.len c.sweep.ensures in
    leaves w c.args.site.now.cluster.0 c.args.hart c.holders-before.result c.holders-after.result (shown c.args.parts.now) c.args.line c.drop_one.new.self _
    c.requires.hart c.requires.sized c.keeps_one_map.ensures c.requires.fits c.requires.other c.drop_one.ensures c.holders-before.ensures c.holders-after.ensures are

pub returns-clause-sized : goal.returns-clause-sized
returns-clause-sized c =
    let w = config c.args.site.now in
    let are = swept_back w c.args.line.0 c.holders-before.result c.holders-after.result c.args.parts.now.locals c.deref_mut.result.now c.sweep.new.locals c.deref_mut.ensures.value c.deref_mut.ensures.len c.sweep.ensures in
    sized_leave w c.args.site.now.cluster.0 c.args.hart c.args.line.0 c.holders-before.result c.holders-after.result (shown c.args.parts.now) c.drop_one.new.self _ c.requires.sized c.drop_one.ensures are
