use Rattle.workload_gen.proofs.Runs.{harts_are_done}
use Rattle.workload_gen.proofs.laws.harts_are_done.Goals as goal

pub returns : goal.returns
returns c = harts_are_done
