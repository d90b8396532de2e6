use Rattle.std.proofs.Common.{sym, ◌∙◌}
use Rattle.unit_rows.specs.Shown.{config, shown}
use Rattle.unit_rows.proofs.LockServes.{not_own, not_ready}
use Rattle.unit_rows.proofs.lock_words.fits_grant.Goals as goal

pub returns-then-not-is_own-clause-idle : goal.returns-then-not-is_own-clause-idle
returns-then-not-is_own-clause-idle c = λ f. not_own (config c.args.site.now) c.args.site.now.cluster.0 (shown c.args.parts.now) c.args.number c.requires (sym c.is_own.ensures ∙ c.if-not-is_own.true)

pub returns-clause-own : goal.returns-clause-own
returns-clause-own c = λ t. sym c.is_own.ensures ∙ c.if-not-is_own.false

pub returns-clause-ready : goal.returns-clause-ready
returns-clause-ready c = λ t. sym c.ready.ensures ∙ t

pub returns-clause-idle : goal.returns-clause-idle
returns-clause-idle c = λ f. not_ready (config c.args.site.now) c.args.site.now.cluster.0 (shown c.args.parts.now) c.args.number c.requires (sym c.is_own.ensures ∙ c.if-not-is_own.false) (sym c.ready.ensures ∙ f)
