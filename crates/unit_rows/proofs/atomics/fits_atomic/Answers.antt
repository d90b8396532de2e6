use Rattle.std.proofs.Common.{◌<◌, is_some, sym, ap, ◌∙◌, subst}
use Rattle.dash_base.specs.declared.need.Need.TheVariants.{Rmw}
use Rattle.unit_rows.specs.declared.parts.Local.{Local}
use Rattle.unit_rows.specs.LineNeeds.{fails}
use Rattle.unit_rows.specs.Shown.{config, shown}
use Rattle.unit_rows.specs.Steps.{HartNeeds}
use Rattle.unit_rows.proofs.AtomicTold.{fails_as_sc, fails_unreserved, atomic_cannot}
use Rattle.unit_rows.proofs.LoadRows.{if_none}
use Rattle.unit_rows.proofs.Retiring.{one_local}
use Rattle.unit_rows.proofs.StoreRows.{sc_cannot, none_of}
use Rattle.unit_rows.proofs.atomics.fits_atomic.Goals as goal

pub returns-then-is_some-clause-idle : goal.returns-then-is_some-clause-idle
returns-then-is_some-clause-idle c = λ operand n.
    let x = c.index-local.result.now in
    let fail = sym c.fails.ensures ∙ c.if-fails.true in
    let need = subst (λ o. HartNeeds (config c.args.site.now) (shown c.args.parts.now) c.args.hart (Rmw c.args.word o operand c.args.labels)) (fails_as_sc c.args.op x.reserved c.args.word fail) n in
    sc_cannot (config c.args.site.now) c.args.site.now.cluster.0 c.args.hart operand c.args.word c.args.labels (shown c.args.parts.now) x c.requires.hart c.index-local.ensures need (fails_unreserved c.args.op x.reserved c.args.word fail) c.keeps_one_slot_a_line.ensures (sym (ap is_some c.get.ensures) ∙ sym c.is_some.ensures ∙ c.if-is_some.true)

pub returns-then-fails-clause-fits : goal.returns-then-fails-clause-fits
returns-then-fails-clause-fits c = (
  λ d. ap (λ (y : Local). fails c.args.op y.reserved c.args.word) (one_local (shown c.args.parts.now) c.args.hart c.index-local.result.now (subst (λ n. c.args.hart < n) (sym c.requires.sized.locals) c.requires.hart) c.index-local.ensures d) ∙ sym c.fails.ensures ∙ c.if-fails.true,
  sym c.get.ensures ∙ none_of c.get.result (sym c.is_some.ensures ∙ c.if-is_some.false),
)

pub returns-in_err-copy-clause-idle : goal.returns-in_err-copy-clause-idle
returns-in_err-copy-clause-idle c =
    let x = c.index-local.result.now in
    if_none c.from_residual.result _ (λ operand n. atomic_cannot (config c.args.site.now) c.args.site.now.cluster.0 c.args.hart operand c.args.op c.args.word c.args.labels (shown c.args.parts.now) x c.requires.hart c.requires.sized c.keeps_one_map.ensures c.index-local.ensures n
    (λ d. ap (λ (y : Local). fails c.args.op y.reserved c.args.word) (one_local (shown c.args.parts.now) c.args.hart x (subst (λ n. c.args.hart < n) (sym c.requires.sized.locals) c.requires.hart) c.index-local.ensures d) ∙ sym c.fails.ensures ∙ c.if-fails.false) c.in_err-copy.ensures.idle)

pub returns-clause-fits : goal.returns-clause-fits
returns-clause-fits c = (
  λ d. ap (λ (y : Local). fails c.args.op y.reserved c.args.word) (one_local (shown c.args.parts.now) c.args.hart c.index-local.result.now (subst (λ n. c.args.hart < n) (sym c.requires.sized.locals) c.requires.hart) c.index-local.ensures d) ∙ sym c.fails.ensures ∙ c.if-fails.false,
  c.in_ok-copy.ensures.fits,
)
