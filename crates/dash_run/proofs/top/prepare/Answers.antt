use Rattle.dash_run.proofs.Printing.{on_err}
use Rattle.dash_run.proofs.Outputs.{seed_short, summary_ready}
use Rattle.dash_run.proofs.top.prepare.Goals as goal

pub returns-in_err-text-clause-memory : goal.returns-in_err-text-clause-memory
returns-in_err-text-clause-memory g c = on_err _ (seed_short _ _ c.in-Some.seed c.in-Some.ensures.some)

pub returns-clause-ready : goal.returns-clause-ready
returns-clause-ready g c = summary_ready _ _ _ _ c.in-Some.seed _ _ c.in-Some.ensures.some c.in_ok-text.ensures
