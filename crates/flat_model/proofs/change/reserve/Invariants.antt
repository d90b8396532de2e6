use Rattle.std.proofs.Common.{◌≡◌, ◌<◌, ◌≤◌, ℕ, length, slice_index_or, None}
use Rattle.dash_event.specs.declared.step_record.StepRecord.TheVariants as step
use Rattle.flat_model.specs.Step.{reservation_after}
use Rattle.flat_model.proofs.change.reserve.Given as goal

-- those below the number are changed, and the others are not
abbrev pub invariant-harts : goal.invariant-harts
invariant-harts l = record {
  count : length l.reservations.items ≡ length l.fn.reservations.items;
  changed : (k : ℕ) → k < l.number → slice_index_or l.reservations.items k None ≡ reservation_after k (step.Access l.access) (slice_index_or l.fn.reservations.items k None);
  others : (k : ℕ) → l.number ≤ k → slice_index_or l.reservations.items k None ≡ slice_index_or l.fn.reservations.items k None;
}
