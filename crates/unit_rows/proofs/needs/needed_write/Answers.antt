use Rattle.std.proofs.Common.{sym, ◌∙◌, subst}
use Rattle.dash_model.specs.Wants.{FrontNeed}
use Rattle.unit_rows.specs.LineNeeds.{IsNeeded}
use Rattle.unit_rows.specs.Shown.{config, shown, hart_at}
use Rattle.unit_rows.proofs.LineNeeds.{write_needed, write_unneeded, write_in_m}
use Rattle.unit_rows.proofs.Retiring.{front_of}
use Rattle.unit_rows.proofs.LinesInside.{write_inside}
use Rattle.unit_rows.proofs.needs.needed_write.Goals as goal

pub returns-in_err-line-clause-needed : goal.returns-in_err-line-clause-needed
returns-in_err-line-clause-needed c =
    let w = config c.args.site.now in
    let k = c.args.site.now.cluster.0 in
    subst (λ r. IsNeeded (λ q p. FrontNeed w (hart_at w k c.args.hart) q p) w k (shown c.args.parts.now) r) (sym c.from_residual.ensures)
    (write_unneeded w k c.args.hart (shown c.args.parts.now) c.index-local.result.now c.index-local.result.now.front.need c.requires.hart c.requires.sized c.index-local.ensures (front_of (config c.args.site.now) c.args.site.now.cluster.0 c.args.hart (shown c.args.parts.now) c.index-local.result.now c.requires.hart c.requires.sized c.index-local.ensures).next (sym c.write_line.ensures ∙ c.in_err-line.was))

pub returns-then-owns_alone-clause-needed : goal.returns-then-owns_alone-clause-needed
returns-then-owns_alone-clause-needed c =
    write_in_m (config c.args.site.now) c.args.site.now.cluster.0 c.args.hart (shown c.args.parts.now) c.index-local.result.now c.index-local.result.now.front.need c.in_ok-line.line c.requires.hart c.requires.sized c.keeps_one_map.ensures c.index-local.ensures (front_of (config c.args.site.now) c.args.site.now.cluster.0 c.args.hart (shown c.args.parts.now) c.index-local.result.now c.requires.hart c.requires.sized c.index-local.ensures).next (sym c.write_line.ensures ∙ c.in_ok-line.was) (sym c.owns_alone.ensures ∙ c.if-owns_alone.true)

pub returns-clause-needed : goal.returns-clause-needed
returns-clause-needed c =
    write_needed (config c.args.site.now) c.args.site.now.cluster.0 c.args.hart (shown c.args.parts.now) c.index-local.result.now c.index-local.result.now.front.need c.in_ok-line.line c.requires.hart c.requires.sized c.keeps_one_map.ensures c.index-local.ensures (front_of (config c.args.site.now) c.args.site.now.cluster.0 c.args.hart (shown c.args.parts.now) c.index-local.result.now c.requires.hart c.requires.sized c.index-local.ensures).next (sym c.write_line.ensures ∙ c.in_ok-line.was) (sym c.owns_alone.ensures ∙ c.if-owns_alone.false)

pub returns-clause-inside : goal.returns-clause-inside
returns-clause-inside c =
    write_inside (config c.args.site.now) c.index-local.result.now.core c.index-local.result.now.reserved c.index-local.result.now.front.need c.in_ok-line.line (front_of (config c.args.site.now) c.args.site.now.cluster.0 c.args.hart (shown c.args.parts.now) c.index-local.result.now c.requires.hart c.requires.sized c.index-local.ensures).next (sym c.write_line.ensures ∙ c.in_ok-line.was)
