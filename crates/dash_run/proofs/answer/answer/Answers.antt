use Rattle.std.proofs.Common.{rules, refl, inl}
use Rattle.dash_run.proofs.Answers.{answer_of}
use Rattle.dash_run.specs.Output.{inputs_of}
use Rattle.dash_run.proofs.answer.answer.Goals as goal

pub returns-in-Ok : goal.returns-in-Ok
returns-in-Ok g c = answer_of _ (inputs_of c.args.inputs) c.in-Ok.topology c.in_ok-answer_on-in-Ok.field-0.output _ c.in-Ok.ensures.ok c.in_ok-answer_on-in-Ok.ensures

pub returns : goal.returns
returns g c = (
  inl (record {
    refusal = c.in-Err.refusal;
    refused = c.in-Err.ensures.refused (search rules);
    status_is = refl;
    text_is = c.in_ok-bad_topology-in-Err.ensures;
  }),
  c.none.ensures,
)
