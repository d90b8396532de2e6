use Rattle.unit_rows.specs.Shown.{config}
use Rattle.unit_rows.proofs.SweepLoop.{SoFar}
use Rattle.unit_rows.proofs.sweep.sweep.Given as goal

abbrev pub invariant-loop-hart : goal.invariant-loop-hart
invariant-loop-hart l = SoFar (config l.site) l.line.0 l.before l.after l.fn.locals l.locals l.hart
