use Rattle.std.proofs.Common.{subst, arith}
use Rattle.unit_rows.specs.Shown.{config, shown}
use Rattle.cluster_unit.specs.Needs.{AreAllNeeded}
use Rattle.cluster_unit.proofs.NeedsListed.{no_needs, more_needs}
use Rattle.cluster_unit.proofs.needs.find_needs.Goals as goal

pub loop-hart-init : goal.loop-hart-init
loop-hart-init c = (no_needs (config c.args.site.now) c.args.site.now.cluster.0 (shown c.args.parts.now) _ c.new-needs.ensures, grind arith)

pub loop-hart-preserved : goal.loop-hart-preserved
loop-hart-preserved c =
    (more_needs (config c.args.site.now) c.args.site.now.cluster.0 (shown c.args.parts.now) c.loop-hart.hart _ _ _ c.push.ensures.items c.loop-hart.invariant.0 c.find_needed.ensures, grind arith)

pub returns : goal.returns
returns c =
    let past = c.loop-hart-test.false in
    let low = c.loop-hart.invariant.1 in
    subst (λ n. AreAllNeeded (config c.args.site.now) c.args.site.now.cluster.0 (shown c.args.parts.now) n c.loop-hart.needs.items) (grind arith) c.loop-hart.invariant.0
