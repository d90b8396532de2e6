use Rattle.flat_model.proofs.Offers.{step_has_values}
use Rattle.flat_model.proofs.laws.accesses_have_their_values.Goals as goal

pub returns : goal.returns
returns c = step_has_values
