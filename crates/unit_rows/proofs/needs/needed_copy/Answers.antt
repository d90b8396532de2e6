use Rattle.std.proofs.Common.{sym, ◌∙◌, subst}
use Rattle.dash_model.specs.Wants.{NeedsCopy}
use Rattle.unit_rows.specs.LineNeeds.{IsNeeded}
use Rattle.unit_rows.specs.Shown.{config, shown, hart_at}
use Rattle.unit_rows.proofs.LineNeeds.{copy_needed, copy_unneeded, copy_is_held}
use Rattle.unit_rows.proofs.Retiring.{front_of}
use Rattle.unit_rows.proofs.LinesInside.{load_inside}
use Rattle.unit_rows.proofs.needs.needed_copy.Goals as goal

pub returns-in_err-line-clause-needed : goal.returns-in_err-line-clause-needed
returns-in_err-line-clause-needed c =
    let w = config c.args.site.now in
    let k = c.args.site.now.cluster.0 in
    subst (λ r. IsNeeded (λ q p. NeedsCopy w (hart_at w k c.args.hart) q p) w k (shown c.args.parts.now) r) (sym c.from_residual.ensures)
    (copy_unneeded w k c.args.hart (shown c.args.parts.now) c.index-local.result.now c.index-local.result.now.front.need c.requires.hart c.requires.sized c.index-local.ensures (front_of (config c.args.site.now) c.args.site.now.cluster.0 c.args.hart (shown c.args.parts.now) c.index-local.result.now c.requires.hart c.requires.sized c.index-local.ensures).next (sym c.load_line.ensures ∙ c.in_err-line.was))

pub returns-then-holds-clause-needed : goal.returns-then-holds-clause-needed
returns-then-holds-clause-needed c =
    copy_is_held (config c.args.site.now) c.args.site.now.cluster.0 c.args.hart (shown c.args.parts.now) c.index-local.result.now c.index-local.result.now.front.need c.in_ok-line.line c.requires.hart c.requires.sized c.index-local.ensures (front_of (config c.args.site.now) c.args.site.now.cluster.0 c.args.hart (shown c.args.parts.now) c.index-local.result.now c.requires.hart c.requires.sized c.index-local.ensures).next (sym c.load_line.ensures ∙ c.in_ok-line.was) (sym c.holds.ensures ∙ c.if-holds.true)

pub returns-clause-needed : goal.returns-clause-needed
returns-clause-needed c =
    copy_needed (config c.args.site.now) c.args.site.now.cluster.0 c.args.hart (shown c.args.parts.now) c.index-local.result.now c.index-local.result.now.front.need c.in_ok-line.line c.requires.hart c.requires.sized c.index-local.ensures (front_of (config c.args.site.now) c.args.site.now.cluster.0 c.args.hart (shown c.args.parts.now) c.index-local.result.now c.requires.hart c.requires.sized c.index-local.ensures).next (sym c.load_line.ensures ∙ c.in_ok-line.was) (sym c.holds.ensures ∙ c.if-holds.false)

pub returns-clause-inside : goal.returns-clause-inside
returns-clause-inside c =
    load_inside (config c.args.site.now) c.index-local.result.now.core c.index-local.result.now.buffer.items c.index-local.result.now.front.need c.in_ok-line.line (front_of (config c.args.site.now) c.args.site.now.cluster.0 c.args.hart (shown c.args.parts.now) c.index-local.result.now c.requires.hart c.requires.sized c.index-local.ensures).next (sym c.load_line.ensures ∙ c.in_ok-line.was)
