use Rattle.dash_model.proofs.Targets.{lines_are_of_memory}
use Rattle.dash_model.proofs.laws.lines_are_of_memory.Goals as goal

pub returns : goal.returns
returns c = lines_are_of_memory
