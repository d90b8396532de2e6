-- What the code's parts have where a hart may commit its oldest store.
use Rattle.std.specs.Prelude.{◌≡◌, ℕ, true, Some, slice_get, slice_index_or}
use Rattle.dash_base.specs.declared.line.Line.{Line}
use Rattle.snoop_bus.specs.View.{copy_of}
use Rattle.write_buffer.specs.declared.entry.Entry.{Entry as Stored}
use Rattle.dash_model.specs.Config.{Config, line_at}
use Rattle.unit_rows.specs.declared.parts.Local.{Local}
use Rattle.unit_rows.specs.Shown.{PartsView}
use Rattle.snoop_bus.specs.View.{owns_alone}

-- hart k is in state M on the line of its oldest store, of which this is the copy
pub record CommitFits (w : Config) (v : PartsView) (k : ℕ) (oldest : Stored) (copy : Line) : Type 0 where
  pub local : Local
  pub is_local : local ≡ slice_index_or v.locals k local
  pub head : slice_get local.buffer.items 0 ≡ Some oldest
  pub state_m : owns_alone v.bus k (line_at w oldest.word.0) ≡ true
  pub copy_is : copy_of v.bus (line_at w oldest.word.0) ≡ Some copy
