-- Sizes that are not refused keep what a topology keeps.
use Rattle.std.proofs.Common.{rules}
use Rattle.dash_base.proofs.Accepted.{accepted}
use Rattle.dash_base.proofs.topology.Topology.of.Goals as goal

pub invariant_of-result-clause-clusters_in_range : goal.invariant_of-result-clause-clusters_in_range
invariant_of-result-clause-clusters_in_range c = (accepted c.args.sizes.now (search rules)).clusters_in_range

pub invariant_of-result-clause-harts_in_range : goal.invariant_of-result-clause-harts_in_range
invariant_of-result-clause-harts_in_range c = (accepted c.args.sizes.now (search rules)).harts_in_range

pub invariant_of-result-clause-budget_in_range : goal.invariant_of-result-clause-budget_in_range
invariant_of-result-clause-budget_in_range c = (accepted c.args.sizes.now (search rules)).budget_in_range

pub invariant_of-result-clause-memory_in_range : goal.invariant_of-result-clause-memory_in_range
invariant_of-result-clause-memory_in_range c = (accepted c.args.sizes.now (search rules)).memory_in_range

pub invariant_of-result-clause-memory_is_power : goal.invariant_of-result-clause-memory_is_power
invariant_of-result-clause-memory_is_power c = ∣ (accepted c.args.sizes.now (search rules)).memory_is_power ∣₁

pub invariant_of-result-clause-memory_in_pages : goal.invariant_of-result-clause-memory_in_pages
invariant_of-result-clause-memory_in_pages c = (accepted c.args.sizes.now (search rules)).memory_in_pages

pub invariant_of-result-clause-locks_in_range : goal.invariant_of-result-clause-locks_in_range
invariant_of-result-clause-locks_in_range c = (accepted c.args.sizes.now (search rules)).locks_in_range

pub invariant_of-result-clause-base_in_pages : goal.invariant_of-result-clause-base_in_pages
invariant_of-result-clause-base_in_pages c = (accepted c.args.sizes.now (search rules)).base_in_pages

pub invariant_of-result-clause-base_in_range : goal.invariant_of-result-clause-base_in_range
invariant_of-result-clause-base_in_range c = (accepted c.args.sizes.now (search rules)).base_in_range

pub invariant_of-result-clause-l2_in_range : goal.invariant_of-result-clause-l2_in_range
invariant_of-result-clause-l2_in_range c = (accepted c.args.sizes.now (search rules)).l2_in_range

pub invariant_of-result-clause-l2_is_power : goal.invariant_of-result-clause-l2_is_power
invariant_of-result-clause-l2_is_power c = ∣ (accepted c.args.sizes.now (search rules)).l2_is_power ∣₁

pub invariant_of-result-clause-l1_in_range : goal.invariant_of-result-clause-l1_in_range
invariant_of-result-clause-l1_in_range c = (accepted c.args.sizes.now (search rules)).l1_in_range

pub invariant_of-result-clause-l1_is_power : goal.invariant_of-result-clause-l1_is_power
invariant_of-result-clause-l1_is_power c = ∣ (accepted c.args.sizes.now (search rules)).l1_is_power ∣₁

pub invariant_of-result-clause-buffer_in_range : goal.invariant_of-result-clause-buffer_in_range
invariant_of-result-clause-buffer_in_range c = (accepted c.args.sizes.now (search rules)).buffer_in_range

pub invariant_of-result-clause-acks_in_range : goal.invariant_of-result-clause-acks_in_range
invariant_of-result-clause-acks_in_range c = (accepted c.args.sizes.now (search rules)).acks_in_range

pub invariant_of-result-clause-prefetch_in_range : goal.invariant_of-result-clause-prefetch_in_range
invariant_of-result-clause-prefetch_in_range c = (accepted c.args.sizes.now (search rules)).prefetch_in_range

pub invariant_of-result-clause-stack_in_range : goal.invariant_of-result-clause-stack_in_range
invariant_of-result-clause-stack_in_range c = (accepted c.args.sizes.now (search rules)).stack_in_range

pub invariant_of-result-clause-stack_is_aligned : goal.invariant_of-result-clause-stack_is_aligned
invariant_of-result-clause-stack_is_aligned c = (accepted c.args.sizes.now (search rules)).stack_is_aligned

pub invariant_of-result-clause-work_in_range : goal.invariant_of-result-clause-work_in_range
invariant_of-result-clause-work_in_range c = (accepted c.args.sizes.now (search rules)).work_in_range
