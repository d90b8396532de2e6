use Rattle.std.proofs.Common.{rules, ◌∙◌, arith}
use Rattle.std.proofs.lemmas.List.{get_or_default}
use Rattle.unit_rows.specs.Shown.{config, shown}
use Rattle.cluster_unit.proofs.EvictListing.{none_given, one_given, all_given}
use Rattle.cluster_unit.proofs.evict_choices.offer_evictions.Goals as goal

pub loop-line-init : goal.loop-line-init
loop-line-init c =
    (none_given (config c.args.site.now) c.args.site.now.cluster.0 c.args.hart (shown c.args.parts.now) c.args.lines.now _ c.requires.before, grind arith, search rules, grind arith)

pub loop-line-preserved : goal.loop-line-preserved
loop-line-preserved c = (
  one_given (config c.args.site.now) c.args.site.now.cluster.0 c.args.hart (shown c.args.parts.now) c.args.lines.now c.loop-line.line-index _ _ _ c.requires.rising c.loop-line-test.true (get_or_default c.args.lines.now c.loop-line.line-index _ 0 c.loop-line-test.true) c.loop-line.invariant.0 c.offer.ensures.offers,
  grind arith,
  c.offer.ensures.room ∙ c.loop-line.invariant.2,
  grind arith,
)

pub returns-clause-listed : goal.returns-clause-listed
returns-clause-listed c =
    let past = c.loop-line-test.false in
    let low = c.loop-line.invariant.3 in
    all_given (config c.args.site.now) c.args.site.now.cluster.0 c.args.hart (shown c.args.parts.now) c.args.lines.now c.loop-line.line-index _ (grind arith) c.requires.whole c.loop-line.invariant.0
