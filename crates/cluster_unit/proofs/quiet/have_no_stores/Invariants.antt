use Rattle.std.proofs.Common.{◌≡◌, ℕ, ◌<◌, [], slice_index_or}
use Rattle.cluster_unit.proofs.quiet.have_no_stores.Given as goal

abbrev pub invariant-loop-local : goal.invariant-loop-local
invariant-loop-local l = (k : ℕ) (x : _) → k < l.local-index → (slice_index_or l.locals k x).buffer.items ≡ []
