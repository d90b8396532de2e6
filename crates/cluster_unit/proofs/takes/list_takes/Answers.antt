use Rattle.std.proofs.Common.{refl, ◌∙◌, arith}
use Rattle.cluster_unit.proofs.Looking.{looked_none, looked_more, takes_grow, few_more, no_takes}
use Rattle.cluster_unit.proofs.takes.list_takes.Goals as goal

pub loop-from-init : goal.loop-from-init
loop-from-init c = (looked_none c.args.inlets.now, no_takes c.args.inlets.now c.args.choices.now.items, refl, grind arith, grind arith)

pub loop-from-preserved : goal.loop-from-preserved
loop-from-preserved c = (
  looked_more c.args.inlets.now c.loop-from.inlets c.list_from.new.inlets c.loop-from.invariant.0 c.list_from.ensures.looked,
  takes_grow c.loop-from.inlets c.list_from.new.inlets c.args.choices.now.items c.loop-from.choices.items c.list_from.new.choices.items c.loop-from.from c.loop-from.invariant.1 c.list_from.ensures.others c.list_from.ensures.takes,
  c.list_from.ensures.room ∙ c.loop-from.invariant.2,
  grind arith,
  few_more c.list_from.new.inlets c.loop-from.from _ c.loop-from.from c.loop-from.choices.items c.list_from.new.choices.items c.loop-from.invariant.4 c.list_from.ensures.takes,
)
