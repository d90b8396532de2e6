use Rattle.workload_gen.proofs.Runs.{last_stores_write_totals}
use Rattle.workload_gen.proofs.laws.last_stores_write_totals.Goals as goal

pub returns : goal.returns
returns c = last_stores_write_totals
