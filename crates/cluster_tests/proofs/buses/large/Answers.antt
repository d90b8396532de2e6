-- The sizes are powers of two.
use Rattle.std.proofs.Common.{refl}
use Rattle.cluster_tests.proofs.buses.large.Goals as goal

pub invariant_of-result-clause-memory_is_power : goal.invariant_of-result-clause-memory_is_power
invariant_of-result-clause-memory_is_power c = ∣ (16, refl) ∣₁

pub invariant_of-result-clause-l2_is_power : goal.invariant_of-result-clause-l2_is_power
invariant_of-result-clause-l2_is_power c = ∣ (14, refl) ∣₁

pub invariant_of-result-clause-l1_is_power : goal.invariant_of-result-clause-l1_is_power
invariant_of-result-clause-l1_is_power c = ∣ (14, refl) ∣₁
