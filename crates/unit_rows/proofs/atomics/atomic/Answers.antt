use Rattle.std.proofs.Common.{subst}
use Rattle.unit_rows.specs.Shown.{config, shown}
use Rattle.unit_rows.specs.StepFits.{EndsAs}
use Rattle.unit_rows.proofs.AtomicTold.{needs_sc, fails_unreserved}
use Rattle.unit_rows.proofs.LoadRows.{if_none}
use Rattle.unit_rows.proofs.atomics.atomic.Goals as goal

pub returns-in_err-outcome-clause-idle : goal.returns-in_err-outcome-clause-idle
returns-in_err-outcome-clause-idle c = if_none c.from_residual.result _ (c.in_err-outcome.ensures.idle c.args.operand c.requires.need)

pub sc_fail-requires : goal.sc_fail-requires
sc_fail-requires c =
    let f = subst (EndsAs (config c.args.site.now) (shown c.args.parts.now) c.args.hart c.args.word c.args.op c.args.labels) c.in-Fails.is c.in_ok-outcome.ensures.fits in record {
      sized = c.requires.sized;
      hart = c.requires.hart;
      need = needs_sc (config c.args.site.now) (shown c.args.parts.now) c.args.hart c.args.op c.args.word c.args.operand c.args.labels f.0 c.requires.need;
      unreserved = λ d. fails_unreserved c.args.op _ c.args.word (f.0 d);
      front = f.1;
    }

pub rmw-requires : goal.rmw-requires
rmw-requires c =
    let f = subst (EndsAs (config c.args.site.now) (shown c.args.parts.now) c.args.hart c.args.word c.args.op c.args.labels) c.in-Writes.is c.in_ok-outcome.ensures.fits in record {
      sized = c.requires.sized;
      hart = c.requires.hart;
      need = c.requires.need;
      fits = f.1;
      reserves = f.0;
    }
