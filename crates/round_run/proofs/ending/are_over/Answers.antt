use Rattle.std.proofs.Common.{rules, subst, sym, IsTrue}
use Rattle.round_run.specs.Ending.{IsOver}
use Rattle.round_run.proofs.UnitsBelow.{each_below}
use Rattle.round_run.proofs.ending.are_over.Goals as goal

pub loop-unit-preserved : goal.loop-unit-preserved
loop-unit-preserved g c =
    each_below (λ n u. IsOver c.args.topology.now u.core) c.args.units.now c.loop-unit.unit-index c.unit-item.result c.loop-unit-test.true c.loop-unit.invariant
    (subst (λ u. IsOver c.args.topology.now u.core) c.unit-item.is (c.is_over.ensures (subst IsTrue (sym c.if-not-is_over.false) (search rules))))
