use Rattle.std.proofs.Common.{subst, arith}
use Rattle.remote_cache.specs.View.{count}
use Rattle.cluster_unit.specs.Victims.{HasCame}
use Rattle.cluster_unit.proofs.InTheWay.{one_came, all_came}
use Rattle.cluster_unit.proofs.victims.add_came.Goals as goal

pub loop-id-preserved : goal.loop-id-preserved
loop-id-preserved c =
    (c.add_victim.ensures.rising, grind arith, one_came c.args.bus.now c.args.slots.now c.args.hart c.loop-id.id _ _ _ c.came_line-found.ensures c.loop-id.invariant.2 c.add_victim.ensures.keeps c.add_victim.ensures.has, grind arith, c.loop-id.invariant.4)

pub returns-clause-came : goal.returns-clause-came
returns-clause-came c =
    let past = c.loop-id-test.false in
    let low = c.loop-id.invariant.3 in
    all_came c.args.bus.now c.args.slots.now c.args.hart c.used-id-end.result (count c.args.slots.now) c.loop-id.lines.items c.used-id-end.ensures.used
    (subst (λ n. HasCame c.args.bus.now c.args.slots.now c.args.hart n c.loop-id.lines.items) (grind arith) c.loop-id.invariant.2)
