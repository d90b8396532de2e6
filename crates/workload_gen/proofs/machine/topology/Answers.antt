-- Three of its sizes are powers of two.
use Rattle.std.proofs.Common.{refl}
use Rattle.workload_gen.proofs.machine.topology.Goals as goal

pub invariant_of-result-clause-memory_is_power : goal.invariant_of-result-clause-memory_is_power
invariant_of-result-clause-memory_is_power c = ∣ (16, refl) ∣₁

pub invariant_of-result-clause-l2_is_power : goal.invariant_of-result-clause-l2_is_power
invariant_of-result-clause-l2_is_power c = ∣ (8, refl) ∣₁

pub invariant_of-result-clause-l1_is_power : goal.invariant_of-result-clause-l1_is_power
invariant_of-result-clause-l1_is_power c = ∣ (4, refl) ∣₁
