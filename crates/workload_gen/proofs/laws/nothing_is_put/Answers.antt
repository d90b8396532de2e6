use Rattle.workload_gen.proofs.Runs.{nothing_is_put}
use Rattle.workload_gen.proofs.laws.nothing_is_put.Goals as goal

pub returns : goal.returns
returns c = nothing_is_put
