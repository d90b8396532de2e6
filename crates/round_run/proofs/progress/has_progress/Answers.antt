use Rattle.std.proofs.Common.{rules, ◌≤◌, IsFalse, sym, subst}
use Rattle.round_run.specs.Progress.{is_progress}
use Rattle.round_run.proofs.UnitsBelow.{each_below}
use Rattle.round_run.proofs.progress.has_progress.Goals as goal

pub loop-place-preserved : goal.loop-place-preserved
loop-place-preserved c i e past low =
    each_below (λ n x. c.args.from ≤ n → IsFalse (is_progress x.kind)) c.args.log.now c.loop-place.place c.index-log-place.result c.loop-place-test.true
    (λ n x below after. c.loop-place.invariant n x after below)
    (λ _. subst IsFalse c.is_progress.ensures (subst IsFalse (sym c.if-is_progress.false) (search rules)))
    i e low past
