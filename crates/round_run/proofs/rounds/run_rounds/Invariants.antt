use Rattle.round_run.specs.Units.{seen, Each, IsMesh}
use Rattle.round_run.specs.Rounds.{StaysSame, AreCounted}
use Rattle.round_run.proofs.rounds.run_rounds.Given as goal

abbrev pub invariant-loop-round : goal.invariant-loop-round
invariant-loop-round g l =
    IsMesh (λ u. seen u.core u.turns u.steps u.ahead) l.topology l.units.items
    × (AreCounted (λ u. seen u.core u.turns u.steps u.ahead) l.topology l.rounds l.units.items × Each (λ u. seen u.core u.turns u.steps u.ahead) StaysSame l.initial.units.items l.units.items)
