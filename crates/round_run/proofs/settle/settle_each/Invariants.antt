use Rattle.round_run.specs.Units.{seen}
use Rattle.round_run.proofs.Weights.{SettledBelow}
use Rattle.round_run.proofs.settle.settle_each.Given as goal

abbrev pub invariant-loop-unit : goal.invariant-loop-unit
invariant-loop-unit g l = SettledBelow (λ u. seen u.core u.turns u.steps u.ahead) l.unit-index l.idle l.initial.unit-items l.unit-items
