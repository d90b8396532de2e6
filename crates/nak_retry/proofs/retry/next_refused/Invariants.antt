use Rattle.std.proofs.Common.{ℕ, ◌≡◌, ◌≤◌, ◌<◌, false}
use Rattle.remote_cache.specs.View.{slot_at}
use Rattle.remote_cache.specs.Steps.{is_refused}
use Rattle.nak_retry.proofs.retry.next_refused.Given as goal

-- none so far is refused
abbrev pub invariant-loop-id : goal.invariant-loop-id
invariant-loop-id l = (other : ℕ) → l.from ≤ other → other < l.id → is_refused (slot_at l.slots other) ≡ false
