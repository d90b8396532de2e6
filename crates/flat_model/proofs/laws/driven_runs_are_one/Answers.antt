use Rattle.flat_model.proofs.DrivenRuns.{one_driven}
use Rattle.flat_model.proofs.laws.driven_runs_are_one.Goals as goal

pub returns : goal.returns
returns c = λ image t hs rs rs' s s' run run'. one_driven image t hs rs rs' s s' run run'
