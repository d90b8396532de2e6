use Rattle.unit_rows.specs.Shown.{config, shown}
use Rattle.unit_rows.proofs.BusFits.{not_needed_own}
use Rattle.unit_rows.proofs.bus.fits_bus_own.Goals as goal

pub returns-then-not-needs_own-clause-idle : goal.returns-then-not-needs_own-clause-idle
returns-then-not-needs_own-clause-idle c = λ t.
    not_needed_own (config c.args.site.now) c.args.site.now.cluster.0 c.args.hart (shown c.args.parts.now) c.args.line (c.needs_own.ensures.unneeded c.if-not-needs_own.true)

pub fits_needed_own-requires-clause-needed : goal.fits_needed_own-requires-clause-needed
fits_needed_own-requires-clause-needed c = c.needs_own.ensures.needed c.if-not-needs_own.false
