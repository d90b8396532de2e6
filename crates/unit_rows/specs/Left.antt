-- What a cluster has left to settle, as its parts show it.
use Rattle.std.specs.Prelude.{ℕ, ◌+◌, ◌*◌}
use Rattle.snoop_bus.specs.View.{holding_at}
use Rattle.queue_lock.specs.View.{waiting_at}
use Rattle.dash_model.specs.Maps.{total}
use Rattle.dash_model.specs.Config.{Config, lines}
use Rattle.dash_model.specs.Weight.{slot_weight, copy_weight}
use Rattle.unit_rows.specs.Shown.{PartsView, copy_by, slot_on}

-- of a line: that it came to a slot, and the harts that hold it
abbrev pub line_left : Config → ℕ → PartsView → ℕ → ℕ
line_left w c v l = slot_weight (slot_on w c v.slots l) + copy_weight (copy_by w c (holding_at v.bus l))

-- of a lock word: the harts that wait for it
abbrev pub word_left : PartsView → ℕ → ℕ
word_left v i = 2 * waiting_at v.locks i

-- its weight: that of its lines, and of its lock words
unfoldable pub weight_left : Config → ℕ → PartsView → ℕ
weight_left w c v = total (line_left w c v) (lines w) + total (word_left v) w.top.locks
