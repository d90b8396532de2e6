use Rattle.std.proofs.Common.{arith}
use Rattle.std.proofs.lemmas.List.{get_or_default}
use Rattle.unit_rows.specs.Shown.{config, shown}
use Rattle.cluster_unit.proofs.FirstOnes.{none_of_next, none_of_lines, first_of_lines}
use Rattle.cluster_unit.proofs.first_eviction.first_line.Goals as goal

pub returns-then-makes_way : goal.returns-then-makes_way
returns-then-makes_way c =
    first_of_lines (config c.args.site.now) c.args.site.now.cluster.0 c.args.hart (shown c.args.parts.now) c.args.lines.now c.requires.whole c.requires.rising c.loop-line.line-index _ c.loop-line-test.true (get_or_default c.args.lines.now c.loop-line.line-index _ 0 c.loop-line-test.true)
    (c.makes_way.ensures.can c.if-makes_way.true) (c.makes_way.ensures.way c.if-makes_way.true) c.loop-line.invariant.0

pub loop-line-preserved : goal.loop-line-preserved
loop-line-preserved c = (
  none_of_next (config c.args.site.now) c.args.site.now.cluster.0 c.args.hart (shown c.args.parts.now) c.args.lines.now c.requires.whole c.loop-line.line-index _ (get_or_default c.args.lines.now c.loop-line.line-index _ 0 c.loop-line-test.true) c.loop-line.invariant.0 (c.makes_way.ensures.cannot c.if-makes_way.false),
  grind arith,
)

pub returns : goal.returns
returns c =
    let past = c.loop-line-test.false in
    let low = c.loop-line.invariant.1 in
    none_of_lines (config c.args.site.now) c.args.site.now.cluster.0 c.args.hart (shown c.args.parts.now) c.args.lines.now c.requires.whole c.loop-line.line-index (grind arith) c.loop-line.invariant.0
