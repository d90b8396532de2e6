use Rattle.std.proofs.Common.{arith}
use Rattle.round_run.specs.Units.{seen, OnlyMet}
use Rattle.round_run.proofs.Eaches.{each_then, met_then}
use Rattle.round_run.proofs.Shown.{all_more}
use Rattle.round_run.proofs.meets.meet_all.Goals as goal

pub loop-source-preserved : goal.loop-source-preserved
loop-source-preserved g c =
    let met = c.loop-source.invariant.0 in (
      each_then (λ u. seen u.core u.turns u.steps u.ahead) OnlyMet OnlyMet OnlyMet _ _ _ met_then met c.meet_row.ensures.met,
      all_more (λ u. seen u.core u.turns u.steps u.ahead) c.loop-source.units c.meet_row.new.units c.loop-source.source
          (let low = c.loop-source-test.true in let count = met.count in grind arith) c.meet_row.ensures.met c.loop-source.invariant.1 c.meet_row.ensures.shown,
    )

pub returns-clause-shown : goal.returns-clause-shown
returns-clause-shown g c a b low below = c.loop-source.invariant.1 a b (let past = c.loop-source-test.false in let count = c.loop-source.invariant.0.count in grind arith) below
