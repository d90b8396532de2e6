-- What the code's parts have where a hart may do its next instruction, by what it needs.
use Rattle.std.specs.Prelude.{◌≡◌, ℕ, ◌<◌, ◌||◌, Bool, true, false, not, None, length, slice_index_or}
use Rattle.dash_base.specs.declared.id.WordAddr.{WordAddr}
use Rattle.dash_base.specs.declared.instr.Labels.{Labels}
use Rattle.dash_base.specs.declared.ops.AmoOp.{AmoOp}
use Rattle.fence_release.specs.Conditions.{is_drained}
use Rattle.remote_cache.specs.View.{slot_at}
use Rattle.snoop_bus.specs.View.{is_holder}
use Rattle.write_buffer.specs.Look.{newest_of, look_by}
use Rattle.write_buffer.specs.declared.entry.Look.TheVariants.{None as NoStore, Hit}
use Rattle.dash_model.specs.Config.{Config, line_at}
use Rattle.unit_rows.specs.declared.parts.Local.{Local}
use Rattle.unit_rows.specs.declared.source.Source.{Source}
use Rattle.unit_rows.specs.declared.source.Source.TheVariants.{Stored, Held}
use Rattle.unit_rows.specs.declared.outcome.Outcome.{Outcome}
use Rattle.unit_rows.specs.declared.outcome.Outcome.TheVariants.{Fails, Writes}
use Rattle.unit_rows.specs.AtomicFits.{AtomicFits, HartFails}
use Rattle.unit_rows.specs.Shown.{PartsView}

-- a fence of hart k doesn't wait, or the hart is drained
pub record FenceFits (v : PartsView) (k : ℕ) (waits : Bool) : Type 0 where
  pub local : Local
  pub is_local : local ≡ slice_index_or v.locals k local
  pub passes : (not waits || is_drained k local.buffer v.acks) ≡ true

-- a load of hart k, which this is, is from a store that waits, and then it is no LR; or from the line, which the hart holds
abbrev pub FindsIn : Config → PartsView → ℕ → Local → WordAddr → ℕ → Bool → Source → Type 0
FindsIn w v k x word mask reserve (Stored value number) = (look_by (newest_of word.0 x.buffer.items) mask ≡ Hit value number) × (reserve ≡ false)
FindsIn w v k x word mask reserve Held = (look_by (newest_of word.0 x.buffer.items) mask ≡ NoStore) × (is_holder v.bus k (line_at w word.0) ≡ true)

pub record LoadFits (w : Config) (v : PartsView) (k : ℕ) (word : WordAddr) (mask : ℕ) (reserve : Bool) (source : Source) : Type 0 where
  pub local : Local
  pub is_local : local ≡ slice_index_or v.locals k local
  pub finds : FindsIn w v k local word mask reserve source

-- the buffer of hart k is not full
pub record StoreFits (w : Config) (v : PartsView) (k : ℕ) : Type 0 where
  pub local : Local
  pub is_local : local ≡ slice_index_or v.locals k local
  pub room : length local.buffer.items < w.top.buffer

-- an atomic operation of hart k fails, and the hart's front slot is empty; or it writes to this copy
abbrev pub EndsAs : Config → PartsView → ℕ → WordAddr → AmoOp → Labels → Outcome → Type 0
EndsAs w v k word op labels Fails = HartFails v k op word true × (slot_at v.slots k ≡ None)
EndsAs w v k word op labels (Writes copy) = HartFails v k op word false × AtomicFits w v k word labels copy

-- the lock instruction of hart k was not sent
pub record AskFits (v : PartsView) (k : ℕ) : Type 0 where
  pub local : Local
  pub is_local : local ≡ slice_index_or v.locals k local
  pub unsent : local.asked ≡ false

-- and the hart is drained
pub record UnlockFits (v : PartsView) (k : ℕ) : Type 0 where
  pub local : Local
  pub is_local : local ≡ slice_index_or v.locals k local
  pub unsent : local.asked ≡ false
  pub drained : is_drained k local.buffer v.acks ≡ true
