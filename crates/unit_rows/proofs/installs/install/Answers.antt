use Rattle.std.proofs.Common.{refl, slice_set}
use Rattle.std.specs.Vec.{with_item}
use Rattle.unit_rows.specs.Shown.{config, shown}
use Rattle.unit_rows.proofs.Swept.{swept_back}
use Rattle.unit_rows.proofs.InstallRow.{installs, sized_installed}
use Rattle.unit_rows.proofs.installs.install.Goals as goal

pub returns-clause-did : goal.returns-clause-did
returns-clause-did c =
    let w = config c.args.site.now in
    let s = c.in_ok-request.request in
    let are = swept_back w s.line.0 c.holders-before.result c.holders-after.result (with_item c.args.parts.now.locals s.hart c.clear.new.local) c.deref_mut.result.now c.sweep.new.locals c.deref_mut.ensures.value c.deref_mut.ensures.len c.sweep.ensures in
    installs w c.args.site.now.cluster.0 c.args.slot c.holders-before.result c.holders-after.result (shown c.args.parts.now) s c.in_ok-request.copy c.hart_id.result c.index_mut-local.result.now c.clear.new.local c.install.new.self c.close.new.self
    (slice_set c.args.parts.now.locals.items s.hart c.clear.new.local) _ c.is_new_owner-clears.result
    c.requires.slot c.keeps_one_slot_a_line.ensures c.keeps_one_map.ensures c.requires.sized c.in_ok-request.ensures.fits c.hart_id.ensures c.install.ensures c.close.ensures c.index_mut-local.ensures.value c.is_new_owner-clears.ensures c.clear.ensures refl c.holders-before.ensures c.holders-after.ensures are

pub returns-clause-sized : goal.returns-clause-sized
returns-clause-sized c =
    let w = config c.args.site.now in
    let s = c.in_ok-request.request in
    let are = swept_back w s.line.0 c.holders-before.result c.holders-after.result (with_item c.args.parts.now.locals s.hart c.clear.new.local) c.deref_mut.result.now c.sweep.new.locals c.deref_mut.ensures.value c.deref_mut.ensures.len c.sweep.ensures in
    sized_installed w c.args.site.now.cluster.0 c.args.slot c.holders-before.result c.holders-after.result (shown c.args.parts.now) s c.in_ok-request.copy c.index_mut-local.result.now c.clear.new.local c.install.new.self c.close.new.self
    (slice_set c.args.parts.now.locals.items s.hart c.clear.new.local) _ c.is_new_owner-clears.result
    c.requires.slot c.requires.sized c.in_ok-request.ensures.fits c.install.ensures c.close.ensures c.index_mut-local.ensures.value c.clear.ensures refl are
