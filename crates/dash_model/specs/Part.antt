-- What one cluster has: its harts, lines, the homes of its lines, its lock words, and the stamp of its last event.
use Rattle.std.specs.Prelude.{ℕ, Bool, false, Option, None, List, []}
use Rattle.hart_core.specs.HartState.{HartState}
use Rattle.hart_core.specs.Opening.{opening_hart}
use Rattle.write_buffer.specs.declared.entry.Entry.{Entry as Stored}
use Rattle.dash_model.specs.Cell.{NoCopy, NoSlot, NoAcks, Uncached, Cell, Home}
use Rattle.dash_model.specs.Config.{Config, opening_line}

-- a hart; the address of the word that it has reserved; the stores that wait, the oldest first; whether its lock instruction was sent; and its L1, by index the line
pub record Processor : Type 0 where
  pub core : HartState
  pub reserved : Option ℕ
  pub buffer : List Stored
  pub asked : Bool
  pub l1 : ℕ → Option ℕ

-- who waits for a lock word: the hart, the number of its instruction, and what the word is to hold
pub record Waiter : Type 0 where
  pub hart : ℕ
  pub number : ℕ
  pub value : ℕ

-- a lock word; how often it was granted or freed; and who waits for it, the first in front
pub record Lock : Type 0 where
  pub value : ℕ
  pub count : ℕ
  pub queue : List Waiter

-- harts by their number in the machine, lines by number, lock words by their number in the lock region
pub record Part : Type 0 where
  pub harts : ℕ → Processor
  pub cells : ℕ → Cell
  pub homes : ℕ → Home
  pub locks : ℕ → Lock
  pub last : ℕ

-- how a run begins: harts at the entry, memory the image, and all else empty
abbrev pub opening_part : Config → Part
opening_part w = record {
  harts = λ h. record { core = opening_hart w.image w.top h; reserved = None; buffer = []; asked = false; l1 = λ i. None };
  cells = λ l. record { copy = NoCopy; slot = NoSlot; acks = NoAcks };
  homes = λ l. record { mem = opening_line w l; entry = Uncached };
  locks = λ i. record { value = 0; count = 0; queue = [] };
  last = 0;
}
