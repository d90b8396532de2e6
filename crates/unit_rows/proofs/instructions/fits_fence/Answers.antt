use Rattle.std.proofs.Common.{sym, ◌∙◌}
use Rattle.unit_rows.specs.Shown.{config, shown}
use Rattle.unit_rows.proofs.PlainSteps.{fence_cannot}
use Rattle.unit_rows.proofs.instructions.fits_fence.Goals as goal

pub returns-clause-fits : goal.returns-clause-fits
returns-clause-fits c = λ t. record { local = c.index-local.result.now; is_local = c.index-local.ensures; passes = sym c.passes.ensures ∙ t }

pub returns-clause-idle : goal.returns-clause-idle
returns-clause-idle c = λ f n. fence_cannot (config c.args.site.now) c.args.site.now.cluster.0 c.args.hart c.args.waits (shown c.args.parts.now) c.index-local.result.now c.requires.hart c.index-local.ensures n (sym c.passes.ensures ∙ f)
