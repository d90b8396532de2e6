use Rattle.workload_gen.proofs.Runs.{counters_are_guarded}
use Rattle.workload_gen.proofs.laws.counters_are_guarded.Goals as goal

pub returns : goal.returns
returns c = counters_are_guarded
