use Rattle.topology.proofs.NoSizes.{out_of_bounds}
use Rattle.topology.proofs.laws.no_size_is_out_of_bounds.Goals as goal

pub returns : goal.returns
returns c = out_of_bounds
