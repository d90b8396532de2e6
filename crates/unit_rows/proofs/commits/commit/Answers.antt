use Rattle.std.proofs.Common.{ap, slice_set}
use Rattle.unit_rows.specs.Shown.{config, shown}
use Rattle.unit_rows.proofs.CommitRow.{commits, sized_committed}
use Rattle.unit_rows.proofs.commits.commit.Goals as goal

pub returns-clause-did : goal.returns-clause-did
returns-clause-did c =
    let x = c.index_mut-local.result.now in
    commits (config c.args.site.now) c.args.site.now.cluster.0 c.args.hart (shown c.args.parts.now) c.in_ok-oldest.oldest c.in_ok-oldest.copy c.written-next.result c.hart_id.result c.line_of-line.result x _ c.commit.new.self c.owe.new.self
    c.in_ok-oldest.ensures.fits c.requires.hart c.requires.sized c.keeps_one_map.ensures c.hart_id.ensures c.line_of-line.ensures c.written-next.ensures c.index_mut-local.ensures.value
    (ap (λ b. slice_set c.args.parts.now.locals.items c.args.hart (record x { buffer = b })) c.drop_head.ensures) c.commit.ensures c.owe.ensures

pub returns-clause-sized : goal.returns-clause-sized
returns-clause-sized c =
    let x = c.index_mut-local.result.now in
    sized_committed (config c.args.site.now) c.args.site.now.cluster.0 c.args.hart (shown c.args.parts.now) c.written-next.result c.line_of-line.result.0 x _ c.commit.new.self c.owe.new.self
    c.requires.hart c.requires.sized c.index_mut-local.ensures.value
    (ap (λ b. slice_set c.args.parts.now.locals.items c.args.hart (record x { buffer = b })) c.drop_head.ensures) c.commit.ensures c.owe.ensures
