-- What is true of the slots of every cluster.
use Rattle.std.specs.Prelude.{ℕ, ◌≤◌, List, Option}
use Rattle.remote_cache.specs.declared.slot.Slot.{Slot}
use Rattle.remote_cache.specs.View.{IsOnePerLine}

-- there are at most four harts, and at most one slot has a line
pub record AreKept (harts : ℕ) (slots : List (Option Slot)) : Type 0 where
  pub harts_in_range : harts ≤ 4
  pub one_per_line : IsOnePerLine slots
