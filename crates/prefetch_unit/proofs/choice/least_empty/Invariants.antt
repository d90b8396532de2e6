use Rattle.std.proofs.Common.{ℕ, ◌<◌, ◌≤◌, ◌≢◌, None}
use Rattle.remote_cache.specs.View.{first_prefetch, slot_at}
use Rattle.prefetch_unit.proofs.choice.least_empty.Given as goal

abbrev pub invariant-loop-id : goal.invariant-loop-id
invariant-loop-id l = (m : ℕ) → first_prefetch l.slots ≤ m → m < l.id → slot_at l.slots m ≢ None
