use Rattle.workload_gen.proofs.Runs.{harts_only_exit}
use Rattle.workload_gen.proofs.laws.harts_only_exit.Goals as goal

pub returns : goal.returns
returns c = harts_only_exit
