use Rattle.std.proofs.Common.{subst, arith}
use Rattle.round_run.specs.Units.{seen}
use Rattle.round_run.specs.Rounds.{DidTurns}
use Rattle.round_run.proofs.Kept.{uses_turned, one_turn, no_turns}
use Rattle.round_run.proofs.work.work.Goals as goal

pub turn_after-last-requires-clause-reserved : goal.turn_after-last-requires-clause-reserved
turn_after-last-requires-clause-reserved g c = let room = c.loop-turn.invariant.1 in let low = c.loop-turn-test.true in grind arith

pub turn_after-last-requires-clause-rests : goal.turn_after-last-requires-clause-rests
turn_after-last-requires-clause-rests g c = c.loop-turn.invariant.2

pub loop-turn-init : goal.loop-turn-init
loop-turn-init g c = (no_turns _, let room = c.requires in grind arith, λ e. absurd (cc))

pub loop-turn-preserved : goal.loop-turn-preserved
loop-turn-preserved g c =
    let uses = uses_turned _ _ _ _ _ _ c.turn_after-last.ensures.turned in (
      one_turn c.loop-turn._turn _ _ _ c.loop-turn.invariant.0 uses c.turn_after-last.ensures.turns c.turn_after-last.ensures.others.0 c.turn_after-last.ensures.others.1,
      let room = c.loop-turn.invariant.1 in let left = uses.reserved in grind arith,
      c.turn_after-last.ensures.rests,
    )

pub returns : goal.returns
returns g c = subst (λ n. DidTurns n (seen c.args.unit.now.core c.args.unit.now.turns c.args.unit.now.steps c.args.unit.now.ahead) (seen c.loop-turn.unit.core c.loop-turn.unit.turns c.loop-turn.unit.steps c.loop-turn.unit.ahead))
    (let past = c.loop-turn-test.false in let low = c.loop-turn.auto._turn-end in grind arith) c.loop-turn.invariant.0
