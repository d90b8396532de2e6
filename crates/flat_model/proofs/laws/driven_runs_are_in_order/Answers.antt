use Rattle.flat_model.proofs.DrivenRuns.{driven_in_order}
use Rattle.flat_model.proofs.laws.driven_runs_are_in_order.Goals as goal

pub returns : goal.returns
returns c = λ image t hs rs s run. driven_in_order image t hs rs s run
