use Rattle.flat_model.proofs.InRuns.{hart_in_range}
use Rattle.flat_model.proofs.laws.harts_are_in_range.Goals as goal

pub returns : goal.returns
returns c = λ image t rs run i r at. hart_in_range image t _ rs run.final run.runs i r at
