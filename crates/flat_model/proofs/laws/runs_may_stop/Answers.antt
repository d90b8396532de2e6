use Rattle.flat_model.proofs.Steps.{first_steps}
use Rattle.flat_model.proofs.laws.runs_may_stop.Goals as goal

pub returns : goal.returns
returns c = λ image t rs more run. (let first = first_steps image t _ rs more run.final run.runs in record { final = first.0; runs = first.1 })
