use Rattle.std.proofs.Common.{◌≡◌, ◌++◌, string_bytes}
use Rattle.elf_load.specs.Image.{ImageView}
use Rattle.dash_model.specs.Machine.{Machine}
use Rattle.dash_run.specs.Report.{hart_of, harts_text}
use Rattle.dash_run.specs.Units.{AreAt}
use Rattle.dash_run.proofs.report.push_harts.Given as goal

abbrev pub invariant-loop-number : goal.invariant-loop-number
invariant-loop-number g l =
    (image : ImageView) (m : Machine) → AreAt (λ u. u.core) (record { image = image; top = l.topology }) m l.units
    → string_bytes l.text ≡ string_bytes l.initial.text ++ harts_text l.topology (hart_of (record { image = image; top = l.topology }) m) l.number
