-- Which slot a prefetch hint opens, by what the code has.
use Rattle.std.specs.Prelude.{◌≡◌, ℕ, true, Option, Some, None, is_some}
use Rattle.dash_base.specs.declared.need.HintKind.{HintKind}
use Rattle.hart_core.specs.Access.{in_memory}
use Rattle.snoop_bus.specs.View.{copy_of, owner_at}
use Rattle.prefetch_unit.specs.Hints.{Opens}
use Rattle.dash_model.specs.Config.{Config, line_at}
use Rattle.unit_rows.specs.Shown.{PartsView}

-- a hint of this kind at an address opens slot n
pub record HintFits (w : Config) (v : PartsView) (kinds : HintKind) (address n : ℕ) : Type 0 where
  pub inside : in_memory w.top address 1 ≡ true
  pub opens : Opens kinds (line_at w address) (is_some (copy_of v.bus (line_at w address))) (is_some (owner_at v.bus (line_at w address))) v.slots v.acks n

-- it opens this slot, or none
abbrev pub OpensJust : Config → PartsView → HintKind → ℕ → Option ℕ → Type 0
OpensJust w v kinds address None = (n : ℕ) → HintFits w v kinds address n → ⊥
OpensJust w v kinds address (Some n) = HintFits w v kinds address n
