use Rattle.std.proofs.Common.{refl}
use Rattle.round_run.specs.Units.{seen}
use Rattle.round_run.proofs.Weights.{met_reserved, eased_reserved, once_eased, once_settled}
use Rattle.round_run.proofs.settle.step_once.Goals as goal

pub returns-in_err-reserve-clause-eased : goal.returns-in_err-reserve-clause-eased
returns-in_err-reserve-clause-eased g c = eased_reserved _ _ (met_reserved _ _ c.reserve.ensures.others refl refl refl)

pub returns-clause-eased : goal.returns-clause-eased
returns-clause-eased g c =
    let counts = c.settle_step.ensures.counts in
    once_eased c.settle_step.result _ (seen c.reserve.new.self c.args.unit.now.turns c.args.unit.now.steps c.args.unit.now.ahead) _ (met_reserved _ _ c.reserve.ensures.others refl refl refl)
    c.settle_step.ensures.settles c.settle_step.ensures.lighter counts.0 counts.1 counts.2

pub returns-clause-settled : goal.returns-clause-settled
returns-clause-settled g c =
    let counts = c.settle_step.ensures.counts in
    once_settled c.settle_step.result _ (seen c.reserve.new.self c.args.unit.now.turns c.args.unit.now.steps c.args.unit.now.ahead) _ (met_reserved _ _ c.reserve.ensures.others refl refl refl)
    c.has_run.ensures.run c.settle_step.ensures.settles c.settle_step.ensures.lighter counts.0 counts.1 counts.2
