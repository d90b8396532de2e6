use Rattle.std.proofs.Common.{◌<◌, refl, sym, subst}
use Rattle.round_run.specs.Units.{seen}
use Rattle.round_run.proofs.Serials.{did_reserved, did_one}
use Rattle.round_run.proofs.Weights.{met_reserved, idle_met}
use Rattle.round_run.proofs.serial.step_alone.Goals as goal

pub serial_step-requires-clause-hart : goal.serial_step-requires-clause-hart
serial_step-requires-clause-hart g c = subst (λ w. c.args.hart < w.top.harts) (sym c.reserve.ensures.others.config) c.requires

pub returns-in_err-reserve-clause-steps : goal.returns-in_err-reserve-clause-steps
returns-in_err-reserve-clause-steps g c = did_reserved _ _ c.reserve.ensures.others refl refl refl

pub returns-clause-steps : goal.returns-clause-steps
returns-clause-steps g c = did_one c.args.hart c.serial_step.result _ (seen c.reserve.new.self c.args.unit.now.turns c.args.unit.now.steps c.args.unit.now.ahead) _ c.reserve.ensures.others refl refl refl
    c.serial_step.ensures.stepped c.serial_step.ensures.turns c.serial_step.ensures.steps c.serial_step.ensures.ahead

pub returns-clause-idle : goal.returns-clause-idle
returns-clause-idle g c idle = idle_met c.args.hart c.serial_step.result _ (seen c.reserve.new.self c.args.unit.now.turns c.args.unit.now.steps c.args.unit.now.ahead) _ (met_reserved _ _ c.reserve.ensures.others refl refl refl)
    c.serial_step.ensures.stepped c.serial_step.ensures.turns c.serial_step.ensures.steps c.serial_step.ensures.ahead idle
