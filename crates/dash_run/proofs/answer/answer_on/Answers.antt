use Rattle.std.proofs.Common.{rules, refl}
use Rattle.dash_run.proofs.Answers.{report_on, refusal_applies}
use Rattle.dash_run.proofs.answer.answer_on.Goals as goal

pub returns-in-Ok : goal.returns-in-Ok
returns-in-Ok g c =
    report_on c.args.with_log c.args.bytes.items c.in-Ok.image c.args.topology.now c.map_of.result c.in_ok-report-in-Ok.field-0.output _ c.map_of.ensures.base c.map_of.ensures.size (search rules) (search rules) (search rules)

pub returns : goal.returns
returns g c = (
  record {
    map = c.map_of.result;
    base = c.map_of.ensures.base;
    size = c.map_of.ensures.size;
    refusal = c.in-Err.refusal;
    refused = refusal_applies c.args.bytes.items c.map_of.result c.in-Err.refusal (search rules) (search rules);
    status_is = refl;
    text_is = search rules;
  },
  c.none.ensures,
)
