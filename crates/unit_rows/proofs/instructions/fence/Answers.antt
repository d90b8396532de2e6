use Rattle.unit_rows.specs.Shown.{config, shown}
use Rattle.unit_rows.proofs.Retiring.{hart_number}
use Rattle.unit_rows.proofs.PlainSteps.{does_fence}
use Rattle.unit_rows.proofs.instructions.fence.Goals as goal

pub retire-pc-requires-clause-goes : goal.retire-pc-requires-clause-goes
retire-pc-requires-clause-goes c = λ d. (c.requires.need d).goes

pub returns-then-not-fits_fence-clause-idle : goal.returns-then-not-fits_fence-clause-idle
returns-then-not-fits_fence-clause-idle c = c.fits_fence.ensures.idle c.if-not-fits_fence.true c.requires.need

pub returns-clause-did : goal.returns-clause-did
returns-clause-did c =
    let f = c.fits_fence.ensures.fits c.if-not-fits_fence.false in
    does_fence (config c.args.site.now) c.args.site.now.cluster.0 c.args.hart c.retire-pc.result c.args.waits c.hart_id.result (shown c.args.parts.now) (shown c.retire-pc.new.parts) f.local
    c.retire-pc.ensures.retired (hart_number c.hart_id.ensures) c.requires.hart c.requires.sized c.requires.need f.is_local f.passes
