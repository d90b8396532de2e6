use Rattle.flat_model.proofs.Ordered.{goes_forward}
use Rattle.flat_model.proofs.laws.happens_before_goes_forward.Goals as goal

pub returns : goal.returns
returns c = goes_forward
