use Rattle.std.proofs.Common.{◌≡◌, ◌+◌, ◌≤◌}
use Rattle.cluster_unit.specs.declared.turn.Turn.TheVariants.{Idle}
use Rattle.cluster_unit.specs.Choosing.{Rests}
use Rattle.round_run.specs.Units.{seen}
use Rattle.round_run.specs.Rounds.{DidTurns}
use Rattle.round_run.proofs.work.work.Given as goal

abbrev pub invariant-loop-turn : goal.invariant-loop-turn
invariant-loop-turn g l =
    DidTurns l._turn (seen l.initial.unit.core l.initial.unit.turns l.initial.unit.steps l.initial.unit.ahead) (seen l.unit.core l.unit.turns l.unit.steps l.unit.ahead)
    × (256 ≤ l.unit.core.reserved + l._turn) × (l.last ≡ Idle → Rests l.unit.core)
