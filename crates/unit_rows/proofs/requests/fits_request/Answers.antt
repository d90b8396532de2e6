use Rattle.std.proofs.Common.{sym, ap, ◌∙◌, subst, is_some}
use Rattle.std.specs.Prelude.{IfNone}
use Rattle.unit_rows.specs.declared.choice.Choice.TheVariants.{Ask}
use Rattle.unit_rows.specs.Rows.{Cannot}
use Rattle.unit_rows.specs.Shown.{config, shown}
use Rattle.unit_rows.proofs.AskTold.{not_empty, causeless, the_cause, line_taken, may_request}
use Rattle.unit_rows.proofs.requests.fits_request.Goals as goal

pub returns-then-is_some-clause-idle : goal.returns-then-is_some-clause-idle
returns-then-is_some-clause-idle c =
    not_empty (config c.args.site.now) c.args.site.now.cluster.0 c.args.slot (shown c.args.parts.now) c.is_some.result c.keeps_one_slot_a_line.ensures (c.is_some.ensures ∙ ap is_some c.get.ensures) c.if-is_some.true

pub returns-in_err-request-clause-idle : goal.returns-in_err-request-clause-idle
returns-in_err-request-clause-idle c =
    subst (λ r. IfNone r (Cannot (config c.args.site.now) c.args.site.now.cluster.0 (shown c.args.parts.now) (Ask c.args.slot))) (sym c.from_residual.ensures)
    (causeless (config c.args.site.now) c.args.site.now.cluster.0 c.args.slot (shown c.args.parts.now) c.cause.result c.cause.ensures c.in_err-request.was)

pub returns-then-is_some-2-clause-idle : goal.returns-then-is_some-2-clause-idle
returns-then-is_some-2-clause-idle c =
    line_taken (config c.args.site.now) c.args.site.now.cluster.0 c.args.slot (shown c.args.parts.now) c.in_ok-request.request c.is_some-2.result
    (the_cause (config c.args.site.now) c.args.site.now.cluster.0 c.args.slot (shown c.args.parts.now) c.cause.result c.in_ok-request.request c.cause.ensures c.in_ok-request.was)
    (c.is_some-2.ensures ∙ ap is_some c.of_line.ensures.slot) c.if-is_some-2.true

pub returns-clause-fits : goal.returns-clause-fits
returns-clause-fits c =
    may_request (config c.args.site.now) c.args.site.now.cluster.0 c.args.slot (shown c.args.parts.now) c.in_ok-request.request c.is_some.result c.is_some-2.result
    (the_cause (config c.args.site.now) c.args.site.now.cluster.0 c.args.slot (shown c.args.parts.now) c.cause.result c.in_ok-request.request c.cause.ensures c.in_ok-request.was)
    (c.is_some.ensures ∙ ap is_some c.get.ensures) c.if-is_some.false (c.is_some-2.ensures ∙ ap is_some c.of_line.ensures.slot) c.if-is_some-2.false
