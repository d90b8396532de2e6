use Rattle.flat_model.proofs.InRuns.{numbers_rise}
use Rattle.flat_model.proofs.laws.numbers_rise.Goals as goal

pub returns : goal.returns
returns c = λ image t rs run i j a b at_i at_j before same. numbers_rise image t _ rs run.final run.runs i j a b at_i at_j before same
