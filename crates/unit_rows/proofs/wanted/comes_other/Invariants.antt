use Rattle.std.proofs.Common.{ℕ, ◌≡◌, ◌<◌, false}
use Rattle.remote_cache.specs.View.{slot_at}
use Rattle.unit_rows.specs.Shown.{config}
use Rattle.unit_rows.specs.EvictFits.{came_other}
use Rattle.unit_rows.proofs.wanted.comes_other.Given as goal

-- no such line came to a slot so far
abbrev pub invariant-loop-id : goal.invariant-loop-id
invariant-loop-id l = (n : ℕ) → n < l.id → came_other (config l.site) l.hart l.line.0 (slot_at l.slots n) ≡ false
