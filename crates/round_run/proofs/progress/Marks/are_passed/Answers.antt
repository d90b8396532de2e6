use Rattle.std.proofs.Common.{rules, ◌<◌, IsFalse, length, slice_index, sym, subst, arith}
use Rattle.round_run.specs.Progress.{NoProgress}
use Rattle.round_run.proofs.UnitsBelow.{each_below}
use Rattle.round_run.proofs.progress.Marks.are_passed.Goals as goal

pub loop-cluster-preserved : goal.loop-cluster-preserved
loop-cluster-preserved g c =
    let low : c.loop-cluster.cluster < length c.args.units.now = omega arith in
    each_below (λ n u. NoProgress (slice_index c.args.self.now.0 n) u.core.log) c.args.units.now c.loop-cluster.cluster c.index-units-cluster.result low c.loop-cluster.invariant
    (subst (NoProgress (slice_index c.args.self.now.0 c.loop-cluster.cluster)) c.log.ensures (c.has_progress.ensures.not (subst IsFalse (sym c.if-has_progress.false) (search rules))))
