use Rattle.std.proofs.Common.{◌<◌, sym, subst, arith}
use Rattle.round_run.specs.Units.{seen, OnlyMet}
use Rattle.round_run.proofs.Eaches.{each_then, met_then}
use Rattle.round_run.proofs.Shown.{row_more}
use Rattle.round_run.proofs.meets.meet_row.Goals as goal

pub loop-target-preserved : goal.loop-target-preserved
loop-target-preserved g c =
    let met = c.loop-target.invariant.0 in (
      each_then (λ u. seen u.core u.turns u.steps u.ahead) OnlyMet OnlyMet OnlyMet _ _ _ met_then met c.meet_pair.ensures.met,
      row_more (λ u. seen u.core u.turns u.steps u.ahead) c.loop-target.units c.meet_pair.new.units c.args.source c.loop-target.target (subst (λ n. c.args.source < n) (sym met.count) c.requires.source)
          (let low = c.loop-target-test.true in let count = met.count in grind arith) c.meet_pair.ensures.met c.loop-target.invariant.1 c.meet_pair.ensures.shown,
    )

pub returns-clause-shown : goal.returns-clause-shown
returns-clause-shown g c b low = c.loop-target.invariant.1 b (let past = c.loop-target-test.false in let count = c.loop-target.invariant.0.count in grind arith)
