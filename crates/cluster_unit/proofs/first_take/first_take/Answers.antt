use Rattle.std.proofs.Common.{arith}
use Rattle.cluster_unit.proofs.Looking.{looked_more}
use Rattle.cluster_unit.proofs.SettleTurns.{none_more, one_shown}
use Rattle.cluster_unit.proofs.first_take.first_take.Goals as goal

pub returns-in-Some-clause-looked : goal.returns-in-Some-clause-looked
returns-in-Some-clause-looked c = looked_more c.args.inlets.now c.loop-from.inlets c.first_class.new.inlets c.loop-from.invariant.0 c.first_class.ensures.looked

pub returns-in-Some-clause-first : goal.returns-in-Some-clause-first
returns-in-Some-clause-first c = one_shown c.loop-from.inlets c.first_class.new.inlets c.loop-from.from c.first_class.ensures.others c.loop-from.invariant.1 c.args.clusters c.in-Some.class c.loop-from-test.true c.in-Some.ensures.first

pub loop-from-preserved : goal.loop-from-preserved
loop-from-preserved c = (
  looked_more c.args.inlets.now c.loop-from.inlets c.first_class.new.inlets c.loop-from.invariant.0 c.first_class.ensures.looked,
  none_more c.loop-from.inlets c.first_class.new.inlets c.loop-from.from c.first_class.ensures.others c.loop-from.invariant.1 c.in_default.ensures.first,
  grind arith,
)
