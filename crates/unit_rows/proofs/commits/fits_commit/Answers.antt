use Rattle.std.proofs.Common.{sym, ap, ◌∙◌, subst, IfNone}
use Rattle.unit_rows.specs.declared.choice.Choice.TheVariants.{Commit}
use Rattle.unit_rows.specs.Rows.{Cannot}
use Rattle.unit_rows.specs.Shown.{config, shown}
use Rattle.snoop_bus.specs.View.{owns_alone}
use Rattle.unit_rows.proofs.CommitFits.{no_store, not_in_m}
use Rattle.unit_rows.proofs.commits.fits_commit.Goals as goal

pub returns-in_err-oldest-clause-idle : goal.returns-in_err-oldest-clause-idle
returns-in_err-oldest-clause-idle c =
    let w = config c.args.site.now in
    let v = shown c.args.parts.now in
    subst (λ r. IfNone r (Cannot w c.args.site.now.cluster.0 v (Commit c.args.hart))) (sym c.from_residual.ensures)
    (no_store w c.args.site.now.cluster.0 c.args.hart v c.index-local.result.now c.requires.hart c.requires.sized c.keeps_one_map.ensures c.index-local.ensures (sym c.head.ensures ∙ c.in_err-oldest.was))

pub returns-then-not-owns_alone-clause-idle : goal.returns-then-not-owns_alone-clause-idle
returns-then-not-owns_alone-clause-idle c =
    let w = config c.args.site.now in
    let v = shown c.args.parts.now in
    not_in_m w c.args.site.now.cluster.0 c.args.hart v c.index-local.result.now c.in_ok-oldest.oldest c.requires.hart c.requires.sized c.keeps_one_map.ensures c.index-local.ensures (sym c.head.ensures ∙ c.in_ok-oldest.was)
    (ap (λ l. owns_alone v.bus c.args.hart l.0) (sym c.line_of-line.ensures) ∙ sym c.owns_alone.ensures ∙ c.if-not-owns_alone.true)
