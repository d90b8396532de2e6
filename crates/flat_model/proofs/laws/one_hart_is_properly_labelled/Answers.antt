use Rattle.flat_model.proofs.InRuns.{one_hart}
use Rattle.flat_model.proofs.laws.one_hart_is_properly_labelled.Goals as goal

pub returns : goal.returns
returns c = λ image t one rs run i j race. one_hart image t one rs run i j race
