use Rattle.std.proofs.Common.{◌≡◌, ◌==◌, refl, rules, subst}
use Rattle.cluster_unit.specs.declared.turn.Turn.TheVariants.{Idle}
use Rattle.round_run.specs.Units.{seen}
use Rattle.round_run.specs.Weight.{SettledBy, is_idle}
use Rattle.round_run.proofs.Weights.{steps_end}
use Rattle.round_run.proofs.settle.settle_unit.Goals as goal

pub returns-then-eq-clause-settled : goal.returns-then-eq-clause-settled
returns-then-eq-clause-settled g c =
    let idle : c.in_ok-step_once.field-0 ≡ Idle = search rules in
    steps_end c.loop-step.step (c.loop-step.step == 0) _ _ _ refl c.loop-step.invariant c.step_once.ensures.eased
    (subst (λ t. SettledBy (is_idle t) (seen c.loop-step.unit.core c.loop-step.unit.turns c.loop-step.unit.steps c.loop-step.unit.ahead) (seen c.step_once.new.unit.core c.step_once.new.unit.turns c.step_once.new.unit.steps c.step_once.new.unit.ahead)) idle c.in_ok-step_once.ensures.settled)
