-- What the code's parts have where a hart may do an atomic operation that writes.
use Rattle.std.specs.Prelude.{◌≡◌, ℕ, Bool, true, Some, slice_index_or}
use Rattle.dash_base.specs.declared.id.WordAddr.{WordAddr}
use Rattle.dash_base.specs.declared.instr.Labels.{Labels}
use Rattle.dash_base.specs.declared.line.Line.{Line}
use Rattle.dash_base.specs.declared.ops.AmoOp.{AmoOp}
use Rattle.snoop_bus.specs.View.{copy_of}
use Rattle.fence_release.specs.Conditions.{is_free_to_commit}
use Rattle.dash_model.specs.Config.{Config, line_at}
use Rattle.unit_rows.specs.declared.parts.Local.{Local}
use Rattle.unit_rows.specs.Shown.{PartsView}
use Rattle.snoop_bus.specs.View.{owns_alone}
use Rattle.unit_rows.specs.LineNeeds.{fails}

-- hart k is in state M on the line of the word, of which this is the copy, and is free to commit
pub record AtomicFits (w : Config) (v : PartsView) (k : ℕ) (word : WordAddr) (labels : Labels) (copy : Line) : Type 0 where
  pub local : Local
  pub is_local : local ≡ slice_index_or v.locals k local
  pub state_m : owns_alone v.bus k (line_at w word.0) ≡ true
  pub free : is_free_to_commit labels.rl word.0 (line_at w word.0) k local.buffer v.acks ≡ true
  pub copy_is : copy_of v.bus (line_at w word.0) ≡ Some copy

-- whether the operation of hart k on the word is an SC that fails
abbrev pub HartFails : PartsView → ℕ → AmoOp → WordAddr → Bool → Type 0
HartFails v k op word answer = (d : Local) → fails op (slice_index_or v.locals k d).reserved word ≡ answer
