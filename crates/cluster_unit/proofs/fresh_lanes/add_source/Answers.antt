use Rattle.std.proofs.Common.{◌≡◌, ◌*◌, length, sym, subst, arith}
use Rattle.cluster_unit.specs.Fresh.{AreUnsent, AddsLane}
use Rattle.cluster_unit.proofs.FreshLanes.{source_begun, source_more}
use Rattle.cluster_unit.proofs.fresh_lanes.add_source.Goals as goal

pub loop-row-init : goal.loop-row-init
loop-row-init c = source_begun (λ v. v.items) c.args.source c.new-outlets.result.items c.args.inlets.now c.new-outlets.ensures.items

pub loop-row-preserved : goal.loop-row-preserved
loop-row-preserved c =
    source_more (λ v. v.items) c.args.source c.loop-row.row-index c.loop-row.outlets.items c.add_lane.new.outlets.items c.add_lane-in-loop-row.new.outlets.items c.args.inlets.now c.loop-row.row-items
    c.row-item.result c.add_lane.new.inlets c.add_lane-in-loop-row.new.inlets c.loop-row.auto.row-items c.loop-row-test.true c.requires c.loop-row.invariant c.row-item.is
    (subst (λ v. AddsLane c.loop-row.outlets.items c.add_lane.new.outlets.items v.items c.add_lane.new.inlets.items) (sym c.row-item.is) c.in_ok-add_lane.ensures) c.in_ok-add_lane-2.ensures

pub returns-clause-outlets : goal.returns-clause-outlets
returns-clause-outlets c =
    let end : c.loop-row.row-index ≡ length c.args.inlets.now = (let a = c.loop-row-test.false in let b = c.loop-row.auto.row-index-end in grind arith) in
    subst (λ n. AreUnsent (2 * n) c.loop-row.outlets.items) end c.loop-row.invariant.unsent

pub returns-clause-inlets : goal.returns-clause-inlets
returns-clause-inlets c b e low = c.loop-row.invariant.done b e (let a = c.loop-row-test.false in grind arith)
