use Rattle.std.proofs.Common.{sym, ap, ◌∙◌, subst, IfNone}
use Rattle.remote_cache.specs.Steps.{is_refused}
use Rattle.unit_rows.specs.declared.choice.Choice.TheVariants.{Again}
use Rattle.unit_rows.specs.Rows.{Cannot}
use Rattle.unit_rows.specs.Shown.{config, shown}
use Rattle.unit_rows.proofs.AgainRow.{not_refused, refused_phase}
use Rattle.unit_rows.proofs.requests.fits_again.Goals as goal

pub returns-in_err-request-clause-idle : goal.returns-in_err-request-clause-idle
returns-in_err-request-clause-idle c =
    subst (λ r. IfNone r (Cannot (config c.args.site.now) c.args.site.now.cluster.0 (shown c.args.parts.now) (Again c.args.slot))) (sym c.from_residual.ensures)
    (not_refused (config c.args.site.now) c.args.site.now.cluster.0 c.args.slot (shown c.args.parts.now) (ap is_refused (sym c.get.ensures ∙ c.in_err-request.was)))

pub returns-then-not-refused-clause-idle : goal.returns-then-not-refused-clause-idle
returns-then-not-refused-clause-idle c =
    not_refused (config c.args.site.now) c.args.site.now.cluster.0 c.args.slot (shown c.args.parts.now) (sym c.refused.ensures ∙ c.if-not-refused.true)

pub returns-clause-fits : goal.returns-clause-fits
returns-clause-fits c =
    let at = sym c.get.ensures ∙ c.in_ok-request.was in record {
      at = at;
      refused = refused_phase c.in_ok-request.request.phase (sym (ap is_refused at) ∙ sym c.refused.ensures ∙ c.if-not-refused.false);
    }
