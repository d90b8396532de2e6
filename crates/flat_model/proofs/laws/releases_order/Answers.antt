use Rattle.flat_model.proofs.Ordered.{across}
use Rattle.flat_model.proofs.laws.releases_order.Goals as goal

pub returns : goal.returns
returns c = across
