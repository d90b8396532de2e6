use Rattle.workload_gen.proofs.Labelled.{workloads_are_properly_labelled}
use Rattle.workload_gen.proofs.laws.workloads_are_properly_labelled.Goals as goal

pub returns : goal.returns
returns c = workloads_are_properly_labelled
