use Rattle.std.proofs.Common.{◌≡◌, ℕ, ◌<◌, None}
use Rattle.remote_cache.specs.View.{slot_at}
use Rattle.cluster_unit.proofs.quiet.are_empty.Given as goal

abbrev pub invariant-loop-id : goal.invariant-loop-id
invariant-loop-id l = (n : ℕ) → n < l.id → slot_at l.slots n ≡ None
