use Rattle.std.proofs.Common.{ℕ, ◌<◌}
use Rattle.round_run.specs.Units.{seen, OnlyMet, Each, HaveMet}
use Rattle.round_run.proofs.meets.meet_row.Given as goal

abbrev pub invariant-loop-target : goal.invariant-loop-target
invariant-loop-target g l =
    Each (λ u. seen u.core u.turns u.steps u.ahead) OnlyMet l.initial.units l.units
    × ((b : ℕ) → b < l.target → HaveMet (λ u. seen u.core u.turns u.steps u.ahead) l.units l.source b)
