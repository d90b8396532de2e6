use Rattle.std.proofs.Common.{◌<◌, sym, ap, ◌∙◌, subst}
use Rattle.write_buffer.specs.Look.{newest_of, look_by}
use Rattle.dash_base.specs.declared.need.Need.TheVariants.{Load}
use Rattle.unit_rows.specs.Steps.{HartNeeds}
use Rattle.unit_rows.specs.StepFits.{LoadFits}
use Rattle.unit_rows.specs.declared.parts.Local.{Local}
use Rattle.unit_rows.specs.Shown.{config, shown}
use Rattle.unit_rows.proofs.Retiring.{one_local}
use Rattle.unit_rows.proofs.LoadRows.{if_none}
use Rattle.unit_rows.proofs.loads.load.Goals as goal

pub returns-in_err-source-clause-idle : goal.returns-in_err-source-clause-idle
returns-in_err-source-clause-idle c = if_none c.from_residual.result _ (c.in_err-source.ensures.idle c.args.labels c.requires.need)

pub load_stored-requires : goal.load_stored-requires
load_stored-requires c =
    let f = subst (LoadFits (config c.args.site.now) (shown c.args.parts.now) c.args.hart c.args.word c.args.mask c.args.reserve) c.in-Stored.is c.in_ok-source.ensures.fits in record {
      sized = c.requires.sized;
      hart = c.requires.hart;
      need = subst (λ b. HartNeeds (config c.args.site.now) (shown c.args.parts.now) c.args.hart (Load c.args.word c.args.mask c.args.labels b)) f.finds.1 c.requires.need;
      look = λ d. ap (λ (y : Local). look_by (newest_of c.args.word.0 y.buffer.items) c.args.mask) (one_local (shown c.args.parts.now) c.args.hart f.local (subst (λ n. c.args.hart < n) (sym c.requires.sized.locals) c.requires.hart) f.is_local d) ∙ f.finds.0;
    }

pub load_held-requires : goal.load_held-requires
load_held-requires c =
    let f = subst (LoadFits (config c.args.site.now) (shown c.args.parts.now) c.args.hart c.args.word c.args.mask c.args.reserve) c.in-Held.is c.in_ok-source.ensures.fits in record {
      sized = c.requires.sized;
      hart = c.requires.hart;
      need = c.requires.need;
      look = λ d. ap (λ (y : Local). look_by (newest_of c.args.word.0 y.buffer.items) c.args.mask) (one_local (shown c.args.parts.now) c.args.hart f.local (subst (λ n. c.args.hart < n) (sym c.requires.sized.locals) c.requires.hart) f.is_local d) ∙ f.finds.0;
    }
