-- The harts so far are told.
use Rattle.std.proofs.Common.{◌≡◌, ℕ, ◌<◌, length, slice_index}
use Rattle.elf_load.specs.Image.{ImageView}
use Rattle.dash_model.specs.Machine.{Machine}
use Rattle.dash_run.specs.Report.{hart_of}
use Rattle.dash_run.specs.Units.{AreAt}
use Rattle.dash_run.proofs.retired.retired_counts.Given as goal

abbrev pub invariant-loop-number : goal.invariant-loop-number
invariant-loop-number g l = record {
  count : length l.retired.items ≡ l.number;
  each : (image : ImageView) (m : Machine) → AreAt (λ u. u.core) (record { image = image; top = l.topology }) m l.units
      → (h : ℕ) → h < l.number → slice_index l.retired.items h ≡ (hart_of (record { image = image; top = l.topology }) m h).retired;
}
