use Rattle.dash_run.specs.Output.{request_of, inputs_of}
use Rattle.dash_run.proofs.Printing.{on_err}
use Rattle.dash_run.proofs.Requests.{no_form_left}
use Rattle.dash_run.proofs.Outputs.{answer_ready, line_ready, usage_ready, inputs_short, begun_short}
use Rattle.dash_run.proofs.top.prepare_report.Goals as goal

pub returns-in_default-clause-ready : goal.returns-in_default-clause-ready
returns-in_default-clause-ready g c = usage_ready _ _ _ _ _ (no_form_left _ c.requires.no_seed c.in_default.ensures.none) c.none.ensures

pub returns-in_err-answer-in-Given-clause-memory : goal.returns-in_err-answer-in-Given-clause-memory
returns-in_err-answer-in-Given-clause-memory g c =
    let given = rw c.in-Given.is at c.in_ok-inputs.ensures.loaded in
    on_err _ (inputs_short _ _ _ _ _ _ (request_of c.in-Some.command) (inputs_of c.in-Given.inputs) c.in-Some.ensures.some given)

pub returns-in_ok-answer-in-Given-clause-ready : goal.returns-in_ok-answer-in-Given-clause-ready
returns-in_ok-answer-in-Given-clause-ready g c =
    let given = rw c.in-Given.is at c.in_ok-inputs.ensures.loaded in
    answer_ready _ _ _ _ _ _ (request_of c.in-Some.command) (inputs_of c.in-Given.inputs) c.in_ok-answer-in-Given.field-0.output _ c.in-Some.ensures.some given c.in_ok-answer-in-Given.ensures

pub returns-in-NotGiven-clause-ready : goal.returns-in-NotGiven-clause-ready
returns-in-NotGiven-clause-ready g c =
    let fault = rw c.in-NotGiven.is at c.in_ok-inputs.ensures.loaded in
    line_ready _ _ _ _ _ _ (request_of c.in-Some.command) _ _ c.in-Some.ensures.some fault c.none-in-NotGiven.ensures

pub returns-in_err-inputs-clause-memory : goal.returns-in_err-inputs-clause-memory
returns-in_err-inputs-clause-memory g c =
    on_err _ (begun_short _ _ _ (request_of c.in-Some.command) c.in-Some.ensures.some c.in_err-inputs.ensures.begun)
