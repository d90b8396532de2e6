use Rattle.dash_model.proofs.Examples.{example_runs}
use Rattle.dash_model.proofs.laws.every_row_happens.Goals as goal

pub returns : goal.returns
returns c = example_runs
