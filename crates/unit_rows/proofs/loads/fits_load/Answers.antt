use Rattle.std.proofs.Common.{◌≡◌, true, false, sym, ap, ◌∙◌}
use Rattle.dash_base.specs.declared.id.LineId.{LineId}
use Rattle.snoop_bus.specs.View.{is_holder}
use Rattle.write_buffer.specs.declared.entry.Look.TheVariants.{None as NoStore, Hit, Wait}
use Rattle.dash_model.specs.Config.{line_at}
use Rattle.unit_rows.specs.Shown.{config, shown}
use Rattle.unit_rows.proofs.LoadRows.{load_cannot, not_held}
use Rattle.unit_rows.proofs.loads.fits_load.Goals as goal

pub returns-in-Wait-clause-idle : goal.returns-in-Wait-clause-idle
returns-in-Wait-clause-idle c = λ labels n.
    load_cannot (config c.args.site.now) c.args.site.now.cluster.0 c.args.hart c.args.mask c.args.word labels c.args.reserve Wait (shown c.args.parts.now) c.index-local.result.now c.requires.hart c.index-local.ensures n (sym c.look.ensures ∙ c.in-Wait.is) (λ p s told. told)

pub returns-then-reserve-clause-idle : goal.returns-then-reserve-clause-idle
returns-then-reserve-clause-idle c = λ labels n.
    load_cannot (config c.args.site.now) c.args.site.now.cluster.0 c.args.hart c.args.mask c.args.word labels c.args.reserve (Hit c.in-Hit.value c.in-Hit.number) (shown c.args.parts.now) c.index-local.result.now c.requires.hart c.index-local.ensures n (sym c.look.ensures ∙ c.in-Hit.is) (λ p s told. let bad : true ≡ false = sym c.if-reserve.true ∙ told in cc)

pub returns-then-not-holds-clause-idle : goal.returns-then-not-holds-clause-idle
returns-then-not-holds-clause-idle c = λ labels n.
    load_cannot (config c.args.site.now) c.args.site.now.cluster.0 c.args.hart c.args.mask c.args.word labels c.args.reserve NoStore (shown c.args.parts.now) c.index-local.result.now c.requires.hart c.index-local.ensures n (sym c.look.ensures ∙ c.in-None.is)
    (not_held (config c.args.site.now) c.args.site.now.cluster.0 c.args.hart (line_at (config c.args.site.now) c.args.word.0) c.args.reserve (shown c.args.parts.now) c.requires.hart (ap (λ (l : LineId). is_holder c.args.parts.now.bus c.args.hart l.0) (sym c.line_of.ensures) ∙ sym c.holds.ensures ∙ c.if-not-holds.true))

pub returns-else-reserve-clause-fits : goal.returns-else-reserve-clause-fits
returns-else-reserve-clause-fits c = record { local = c.index-local.result.now; is_local = c.index-local.ensures; finds = (sym c.look.ensures ∙ c.in-Hit.is, c.if-reserve.false) }

pub returns-else-not-holds-clause-fits : goal.returns-else-not-holds-clause-fits
returns-else-not-holds-clause-fits c = record {
  local = c.index-local.result.now;
  is_local = c.index-local.ensures;
  finds = (sym c.look.ensures ∙ c.in-None.is, ap (λ (l : LineId). is_holder c.args.parts.now.bus c.args.hart l.0) (sym c.line_of.ensures) ∙ sym c.holds.ensures ∙ c.if-not-holds.false);
}
