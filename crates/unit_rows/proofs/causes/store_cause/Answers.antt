use Rattle.std.proofs.Common.{◌+◌, sym, ◌∙◌, subst}
use Rattle.unit_rows.specs.AskFits.{HasCause, CausesJust}
use Rattle.unit_rows.specs.Shown.{config, shown}
use Rattle.unit_rows.proofs.AskCauses.{causes_store, store_none}
use Rattle.unit_rows.proofs.causes.store_cause.Goals as goal

pub returns-in_err-line : goal.returns-in_err-line
returns-in_err-line c =
    let w = config c.args.site.now in
    let k = c.args.site.now.cluster.0 in
    subst (CausesJust w k (shown c.args.parts.now) (c.args.hart + w.top.harts)) (sym c.from_residual.ensures)
    (store_none w k c.args.hart (shown c.args.parts.now) c.needed_store-stored.result c.requires.sized c.needed_store-stored.ensures.needed (sym c.unowned.ensures ∙ c.in_err-line.was))

pub returns : goal.returns
returns c =
    let w = config c.args.site.now in
    let k = c.args.site.now.cluster.0 in
    subst (HasCause w k (shown c.args.parts.now) (c.args.hart + w.top.harts)) (sym c.first_request.ensures)
    (causes_store w k c.args.hart (shown c.args.parts.now) c.needed_store-stored.result c.in_ok-line.line c.requires.hart (c.needed_store-stored.ensures.inside c.requires.stores) c.requires.sized c.needed_store-stored.ensures.needed (sym c.unowned.ensures ∙ c.in_ok-line.was))
