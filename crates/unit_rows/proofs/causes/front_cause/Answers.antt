use Rattle.std.proofs.Common.{sym, ◌∙◌, subst}
use Rattle.unit_rows.specs.AskFits.{HasCause, CausesJust}
use Rattle.unit_rows.specs.Shown.{config, shown}
use Rattle.unit_rows.proofs.AskCauses.{causes_read, causes_write, front_none, none_if}
use Rattle.unit_rows.proofs.causes.front_cause.Goals as goal

pub returns-in-Some : goal.returns-in-Some
returns-in-Some c =
    let w = config c.args.site.now in
    let k = c.args.site.now.cluster.0 in
    subst (HasCause w k (shown c.args.parts.now) c.args.hart) (sym c.first_request.ensures)
    (causes_read w k c.args.hart (shown c.args.parts.now) c.needed_copy-read.result c.in-Some.line c.requires.hart c.needed_copy-read.ensures.inside c.needed_copy-read.ensures.needed (sym c.uncopied.ensures ∙ c.in-Some.is))

pub returns-in_err-line : goal.returns-in_err-line
returns-in_err-line c =
    let w = config c.args.site.now in
    let k = c.args.site.now.cluster.0 in
    subst (CausesJust w k (shown c.args.parts.now) c.args.hart) (sym c.from_residual.ensures)
    (front_none w k c.args.hart (shown c.args.parts.now) c.needed_copy-read.result c.needed_write-written.result c.requires.hart c.requires.sized c.needed_copy-read.ensures.needed
    (sym c.uncopied.ensures ∙ none_if c.uncopied.result c.in_default.not-Some) c.needed_write-written.ensures.needed (sym c.unowned.ensures ∙ c.in_err-line.was))

pub returns : goal.returns
returns c =
    let w = config c.args.site.now in
    let k = c.args.site.now.cluster.0 in
    subst (HasCause w k (shown c.args.parts.now) c.args.hart) (sym c.first_request-2.ensures)
    (causes_write w k c.args.hart (shown c.args.parts.now) c.needed_copy-read.result c.needed_write-written.result c.in_ok-line.line c.requires.hart c.needed_write-written.ensures.inside c.requires.sized c.needed_copy-read.ensures.needed
    (sym c.uncopied.ensures ∙ none_if c.uncopied.result c.in_default.not-Some) c.needed_write-written.ensures.needed (sym c.unowned.ensures ∙ c.in_ok-line.was))
