use Rattle.std.proofs.Common.{ℕ, ◌<◌, ◌≤◌, IsFalse, slice_index_or}
use Rattle.dash_event.specs.declared.event.Event.{Event}
use Rattle.round_run.specs.Progress.{is_progress}
use Rattle.round_run.proofs.progress.has_progress.Given as goal

abbrev pub invariant-loop-place : goal.invariant-loop-place
invariant-loop-place l = (i : ℕ) (e : Event) → l.from ≤ i → i < l.place → IsFalse (is_progress (slice_index_or l.log i e).kind)
