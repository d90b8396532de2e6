-- The parts of a cluster at the start of a run.
use Rattle.std.specs.Prelude.{◌≡◌, ℕ, ◌+◌, ◌<◌, false, None, List, [], length, slice_index_or}
use Rattle.circular_buffer.specs.Buffer.{buffer}
use Rattle.dash_base.specs.Places.{first_prefetch}
use Rattle.hart_core.specs.Opening.{opening_hart}
use Rattle.snoop_bus.specs.View.{empty_bus}
use Rattle.remote_cache.specs.View.{empty_slots}
use Rattle.ack_counter.specs.Steps.{empty_table}
use Rattle.directory.specs.Opening as home
use Rattle.queue_lock.specs.Steps as locks
use Rattle.dash_model.specs.Config.{Config}
use Rattle.unit_rows.specs.declared.parts.Local.{Local}
use Rattle.unit_rows.specs.Shown.{PartsView, hart_at, HasFront}

-- a hart at the start
pub record IsOpeningLocal (w : Config) (c k : ℕ) (x : Local) : Type 0 where
  pub core : x.core ≡ opening_hart w.image w.top (hart_at w c k)
  pub front : HasFront w x
  pub reserved : x.reserved ≡ None
  pub buffer : x.buffer ≡ buffer [] w.top.buffer
  pub asked : x.asked ≡ false

-- so many harts, each as at the start
pub record AreOpening (w : Config) (c n : ℕ) (locals : List Local) : Type 0 where
  pub count : length locals ≡ n
  pub each : (k : ℕ) (d : Local) → k < n → IsOpeningLocal w c k (slice_index_or locals k d)

-- no line is held, asked for or pending, and what has its home here is as the image has it
pub record IsOpening (w : Config) (c : ℕ) (v : PartsView) : Type 0 where
  pub locals : AreOpening w c w.top.harts v.locals
  pub bus : v.bus ≡ empty_bus w.top.harts w.top.l1 w.top.l2
  pub slots : v.slots ≡ empty_slots w.top.harts (first_prefetch w.top.harts + w.top.prefetch)
  pub acks : v.acks ≡ empty_table w.top.acks
  pub home : home.IsOpening w.top c w.image v.home
  pub locks : locks.IsOpening w.top c v.locks
