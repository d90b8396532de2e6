use Rattle.dash_model.proofs.LawsOffered.{runs_are_admissible}
use Rattle.trace_merge.proofs.Law.{is_sequential}
use Rattle.trace_merge.proofs.laws.runs_are_sequential.Goals as goal

pub returns : goal.returns
returns c = λ w log labelled run. is_sequential w.image w.top log (runs_are_admissible w log run) labelled
