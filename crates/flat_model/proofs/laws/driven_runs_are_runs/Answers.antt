use Rattle.flat_model.proofs.DrivenRuns.{driven_run}
use Rattle.flat_model.proofs.laws.driven_runs_are_runs.Goals as goal

pub returns : goal.returns
returns c = λ image t hs rs s run. driven_run image t hs rs s run
