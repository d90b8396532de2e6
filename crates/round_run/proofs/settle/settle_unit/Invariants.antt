use Rattle.round_run.specs.Units.{seen}
use Rattle.round_run.proofs.Weights.{SettledFor}
use Rattle.round_run.proofs.settle.settle_unit.Given as goal

abbrev pub invariant-loop-step : goal.invariant-loop-step
invariant-loop-step g l = SettledFor l.step (seen l.initial.unit.core l.initial.unit.turns l.initial.unit.steps l.initial.unit.ahead) (seen l.unit.core l.unit.turns l.unit.steps l.unit.ahead)
