-- The harts so far are as at the start.
use Rattle.unit_rows.specs.Shown.{config}
use Rattle.unit_rows.specs.Opening.{AreOpening}
use Rattle.unit_rows.proofs.opening.opening_locals.Given as goal

abbrev pub invariant-loop-hart : goal.invariant-loop-hart
invariant-loop-hart l = AreOpening (config l.site) l.site.cluster.0 l.hart l.locals.items
