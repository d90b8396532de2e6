use Rattle.workload_gen.proofs.Runs.{counters_come_to_totals}
use Rattle.workload_gen.proofs.laws.counters_come_to_totals.Goals as goal

pub returns : goal.returns
returns c = counters_come_to_totals
