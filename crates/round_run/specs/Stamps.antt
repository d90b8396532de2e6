-- Stamps that stay below the greatest one.
use Rattle.std.specs.Prelude.{◌≡◌, ℕ, ◌+◌, ◌^◌, ◌<◌, List, length, slice_index_or, slice_get, Some}
use Rattle.dash_event.specs.declared.event.Event.{Event}
use Rattle.round_run.specs.Units.{UnitView}

-- the last event of a log has such a stamp
abbrev pub EndsBelow : List Event → Type 0
EndsBelow log = (i : ℕ) (e : Event) → i + 1 ≡ length log → slice_get log i ≡ Some e → e.stamp < 2 ^ 62

-- those of all units do
abbrev pub AreBelow : {U : Type 0} → (U → UnitView) → List U → Type 0
AreBelow {U} view us = (c : ℕ) (d : U) → c < length us → EndsBelow (view (slice_index_or us c d)).core.log
