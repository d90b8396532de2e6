use Rattle.std.proofs.Common.{ℕ, ◌<◌, length}
use Rattle.round_run.specs.Units.{seen, OnlyMet, Each, HaveMet}
use Rattle.round_run.proofs.meets.meet_all.Given as goal

abbrev pub invariant-loop-source : goal.invariant-loop-source
invariant-loop-source g l =
    Each (λ u. seen u.core u.turns u.steps u.ahead) OnlyMet l.initial.units l.units
    × ((a b : ℕ) → a < l.source → b < length l.units → HaveMet (λ u. seen u.core u.turns u.steps u.ahead) l.units a b)
