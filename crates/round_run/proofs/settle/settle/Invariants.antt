use Rattle.round_run.specs.Units.{seen, Each, AllHaveMet}
use Rattle.round_run.specs.Weight.{IsEased, weight_among}
use Rattle.round_run.proofs.settle.settle.Given as goal

abbrev pub invariant-loop-units : goal.invariant-loop-units
invariant-loop-units g l = Each (λ u. seen u.core u.turns u.steps u.ahead) IsEased l.initial.units l.units × AllHaveMet (λ u. seen u.core u.turns u.steps u.ahead) l.units

abbrev pub decreases-loop-units : goal.decreases-loop-units
decreases-loop-units g l = weight_among (λ u. seen u.core u.turns u.steps u.ahead) l.topology.clusters l.units
