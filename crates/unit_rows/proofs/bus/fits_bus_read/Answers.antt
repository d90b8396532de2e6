use Rattle.std.proofs.Common.{sym, ◌∙◌}
use Rattle.unit_rows.specs.Shown.{config, shown}
use Rattle.unit_rows.proofs.BusFits.{copy_for, this_found, this_missing, other_line}
use Rattle.unit_rows.proofs.bus.fits_bus_read.Goals as goal

pub returns-then-not-is_this-clause-idle : goal.returns-then-not-is_this-clause-idle
returns-then-not-is_this-clause-idle c = λ t.
    other_line (config c.args.site.now) c.args.site.now.cluster.0 c.args.hart (shown c.args.parts.now) c.args.line c.needed_copy.result c.needed_copy.ensures.needed (this_missing c.needed_copy.result c.args.line (sym c.is_this.ensures ∙ c.if-not-is_this.true))

pub fits_needed_read-requires-clause-needed : goal.fits_needed_read-requires-clause-needed
fits_needed_read-requires-clause-needed c =
    copy_for (config c.args.site.now) c.args.site.now.cluster.0 c.args.hart (shown c.args.parts.now) c.args.line c.needed_copy.result c.needed_copy.ensures.needed (this_found c.needed_copy.result c.args.line (sym c.is_this.ensures ∙ c.if-not-is_this.false))
