use Rattle.std.proofs.Common.{sym, ◌∙◌}
use Rattle.unit_rows.specs.Shown.{config, shown}
use Rattle.unit_rows.proofs.LockSends.{unlock_cannot, undrained_cannot}
use Rattle.unit_rows.proofs.lock_instructions.fits_unlock.Goals as goal

pub returns-then-local-clause-idle : goal.returns-then-local-clause-idle
returns-then-local-clause-idle c = λ f word n. unlock_cannot (config c.args.site.now) c.args.site.now.cluster.0 c.args.hart word (shown c.args.parts.now) c.index-local.result.now c.requires.hart c.index-local.ensures n c.if-local.true

pub returns-clause-fits : goal.returns-clause-fits
returns-clause-fits c = λ t. record { local = c.index-local.result.now; is_local = c.index-local.ensures; unsent = c.if-local.false; drained = sym c.may_fence.ensures ∙ t }

pub returns-clause-idle : goal.returns-clause-idle
returns-clause-idle c = λ f word n. undrained_cannot (config c.args.site.now) c.args.site.now.cluster.0 c.args.hart word (shown c.args.parts.now) c.index-local.result.now c.requires.hart c.index-local.ensures n (sym c.may_fence.ensures ∙ f)
