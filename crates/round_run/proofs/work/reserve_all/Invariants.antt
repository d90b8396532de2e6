use Rattle.std.proofs.Common.{ℕ, ◌<◌, ◌≤◌, slice_index_or}
use Rattle.round_run.specs.Units.{seen, HasCounts, Each}
use Rattle.round_run.proofs.work.reserve_all.Given as goal

abbrev pub invariant-loop-unit : goal.invariant-loop-unit
invariant-loop-unit g l =
    Each (λ u. seen u.core u.turns u.steps u.ahead) HasCounts l.initial.unit-items l.unit-items
    × ((c : ℕ) (d : _) → c < l.unit-index → 256 ≤ (slice_index_or l.unit-items c d).core.reserved)
