use Rattle.flat_model.proofs.Steps.{of_its_hart}
use Rattle.flat_model.proofs.laws.records_are_of_their_hart.Goals as goal

pub returns : goal.returns
returns c = of_its_hart
