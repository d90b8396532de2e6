use Rattle.std.proofs.Common.{◌<◌, sym, subst, arith}
use Rattle.round_run.specs.Units.{seen}
use Rattle.round_run.proofs.Weights.{none_settled, next_eased, next_settled, all_settled}
use Rattle.round_run.proofs.settle.settle_each.Goals as goal

pub loop-unit-init : goal.loop-unit-init
loop-unit-init g c = none_settled (λ u. seen u.core u.turns u.steps u.ahead) _

pub loop-unit-preserved : goal.loop-unit-preserved
loop-unit-preserved g c =
    next_settled (λ u. seen u.core u.turns u.steps u.ahead) _ c.loop-unit.unit-items c.loop-unit.unit-index c.loop-unit.idle _ c.unit-item.result c.settle_unit.new.unit c.loop-unit.invariant
    (subst (λ n. c.loop-unit.unit-index < n) (sym c.loop-unit.invariant.eased.count) c.loop-unit-test.true) c.settle_unit.ensures.eased c.in_ok-idle.ensures.settled

pub returns-in_err-idle-clause-eased : goal.returns-in_err-idle-clause-eased
returns-in_err-idle-clause-eased g c =
    next_eased (λ u. seen u.core u.turns u.steps u.ahead) _ c.loop-unit.unit-items c.loop-unit.unit-index c.unit-item.result c.settle_unit.new.unit c.loop-unit.invariant.eased
    (subst (λ n. c.loop-unit.unit-index < n) (sym c.loop-unit.invariant.eased.count) c.loop-unit-test.true) c.settle_unit.ensures.eased

pub returns : goal.returns
returns g c = record { eased = c.loop-unit.invariant.eased; settled = all_settled (λ u. seen u.core u.turns u.steps u.ahead) _ _ c.loop-unit.unit-index c.loop-unit.idle (let past = c.loop-unit-test.false in grind arith) c.loop-unit.invariant }
