-- What the equations of the table speak of: a small machine, a scene of one of its clusters, and what an event makes of the scene.
use Rattle.std.specs.Prelude.{◌≡◌, ℕ, ◌/◌, ◌%◌, ◌^◌, ◌==◌, Bool, false, cond, Option, None, List, [], ◌∷◌, refl, replicate, slice_set}
use Rattle.std.proofs.Math.Dec.{lit≤}
use Rattle.dash_base.specs.declared.end.End.TheVariants.{Running}
use Rattle.dash_base.specs.declared.id.LineId.{LineId}
use Rattle.dash_base.specs.declared.id.WordAddr.{WordAddr}
use Rattle.dash_base.specs.declared.line.Line.{Line}
use Rattle.dash_base.specs.declared.topology.Topology.{Topology}
use Rattle.dash_msg.specs.declared.parcel.Sent.{Sent}
use Rattle.dash_event.specs.declared.event.Kind.{Kind}
use Rattle.hart_core.specs.HartState.{HartState}
use Rattle.write_buffer.specs.declared.entry.Entry.{Entry as Stored}
use Rattle.dash_model.specs.Config.{Config, line_id}
use Rattle.dash_model.specs.Cell.{Copy, NoCopy, Slot, NoSlot, Acks, NoAcks, Entry, Uncached, Cell, Home}
use Rattle.dash_model.specs.Part.{Part, Lock}
use Rattle.dash_model.specs.HartRows.{HartEffect}
use Rattle.dash_model.specs.Row.{row}
use Rattle.dash_model.specs.Guard.{Guard}

-- four clusters of two harts, and one lock word, which follows memory at 65536; the least caches and tables, and room for two stores
abbrev pub small : Topology
small = record {
  clusters = 4;
  harts = 2;
  budget = 9;
  memory = 65536;
  locks = 1;
  base = 0;
  l2 = 16;
  l1 = 1;
  buffer = 2;
  acks = 1;
  prefetch = 1;
  stack = 16;
  clusters_in_range = record { low = lit≤ tt; high = lit≤ tt };
  harts_in_range = record { low = lit≤ tt; high = lit≤ tt };
  budget_in_range = record { low = lit≤ tt; high = lit≤ tt };
  memory_in_range = record { low = lit≤ tt; high = lit≤ tt };
  memory_is_power = ∣ (16, refl) ∣₁;
  memory_in_pages = refl;
  locks_in_range = lit≤ tt;
  base_in_pages = refl;
  base_in_range = lit≤ tt;
  l2_in_range = record { low = lit≤ tt; high = lit≤ tt };
  l2_is_power = ∣ (4, refl) ∣₁;
  l1_in_range = record { low = lit≤ tt; high = lit≤ tt };
  l1_is_power = ∣ (0, refl) ∣₁;
  buffer_in_range = record { low = lit≤ tt; high = lit≤ tt };
  acks_in_range = record { low = lit≤ tt; high = lit≤ tt };
  prefetch_in_range = lit≤ tt;
  stack_in_range = record { low = lit≤ tt; high = lit≤ tt };
  stack_is_aligned = refl;
  work_in_range = lit≤ tt;
}

-- the bytes of a word, the lowest first
abbrev pub bytes_of : ℕ → List ℕ
bytes_of word = word % 2 ^ 8 ∷ word / 2 ^ 8 % 2 ^ 8 ∷ word / 2 ^ 16 % 2 ^ 8 ∷ word / 2 ^ 24 ∷ []

-- that machine with an image of one instruction, at address 4096
abbrev pub config_of : ℕ → Config
config_of word = record {
  image = record { entry = 4096; segments = record { vaddr = 4096; memsz = 4; flags = 5; bytes = bytes_of word } ∷ [] };
  top = small;
}

-- what of a cluster may vary: the word of hart 2's next instruction; of hart 2 all that it has; of hart 3, which holds no store, its reservation and L1; of line 6 what the cluster has; line 22, which has the same index in L2, and line 7, which has another one; line 6 at its home; and lock word 0
pub record Scene : Type 0 where
  pub word : ℕ
  pub core : HartState
  pub reserved : Option ℕ
  pub buffer : List Stored
  pub asked : Bool
  pub l1 : Option ℕ
  pub reserved_beside : Option ℕ
  pub l1_beside : Option ℕ
  pub copy : Copy
  pub slot : Slot
  pub acks : Acks
  pub other : Cell
  pub apart : Cell
  pub home : Home
  pub lock : Lock

-- a line of which the cluster has nothing
abbrev pub empty : Cell
empty = record { copy = NoCopy; slot = NoSlot; acks = NoAcks }

-- a part with just that
abbrev pub part_of : Scene → Part
part_of s = record {
  harts = λ h. cond (h == 2) (record { core = s.core; reserved = s.reserved; buffer = s.buffer; asked = s.asked; l1 = λ i. s.l1 }) (record { core = s.core; reserved = s.reserved_beside; buffer = []; asked = false; l1 = λ i. s.l1_beside });
  cells = λ l. cond (l == 6) (record { copy = s.copy; slot = s.slot; acks = s.acks }) (cond (l == 22) s.other (cond (l == 7) s.apart empty));
  homes = λ l. s.home;
  locks = λ i. s.lock;
  last = 0;
}

-- what a part has of that
abbrev pub scene_in : ℕ → Part → Scene
scene_in word p = record {
  word = word;
  core = (p.harts 2).core;
  reserved = (p.harts 2).reserved;
  buffer = (p.harts 2).buffer;
  asked = (p.harts 2).asked;
  l1 = (p.harts 2).l1 0;
  reserved_beside = (p.harts 3).reserved;
  l1_beside = (p.harts 3).l1 0;
  copy = (p.cells 6).copy;
  slot = (p.cells 6).slot;
  acks = (p.cells 6).acks;
  other = p.cells 22;
  apart = p.cells 7;
  home = p.homes 6;
  lock = p.locks 0;
}

-- what an event leaves, and the messages that it sends
pub record Outcome : Type 0 where
  pub scene : Scene
  pub sent : List Sent

-- the outcome of an event at cluster c, where this is what hart 2's instruction needs and makes of the hart
abbrev pub outcome : ℕ → Kind → HartEffect → Scene → Outcome
outcome c k d s = record {
  scene = scene_in s.word (row (config_of s.word) c k d (part_of s)).part;
  sent = (row (config_of s.word) c k d (part_of s)).sent;
}

-- at cluster c the event makes this of the scene, and sends these messages
abbrev pub Makes : ℕ → Kind → Scene → Scene → List Sent → Type 0
Makes c k s made sent = (d : HartEffect) → outcome c k d s ≡ record { scene = made; sent = sent }

-- at cluster c the event makes this of the scene, where `next` is what the instruction makes of hart 2, and sends nothing
abbrev pub Becomes : ℕ → Kind → Scene → (HartState → Scene) → Type 0
Becomes c k s made = (d : HartEffect) → outcome c k d s ≡ record { scene = made d.next; sent = [] }

-- at cluster c the event changes nothing, and sends nothing
abbrev pub Leaves : ℕ → Kind → Scene → Type 0
Leaves c k s = Makes c k s s []

-- at cluster c the event may happen
abbrev pub May : ℕ → Kind → Scene → Type 0
May c k s = (d : HartEffect) × Guard (config_of s.word) c k d (part_of s)

-- at cluster c the event cannot happen
abbrev pub Never : ℕ → Kind → Scene → Type 0
Never c k s = (d : HartEffect) → Guard (config_of s.word) c k d (part_of s) → ⊥

-- an address of a word
abbrev pub at : ℕ → WordAddr
at n = record { 0 = n }

-- line 6
abbrev pub line : LineId
line = line_id 6

-- what the line's home has in memory
abbrev pub old : Line
old = record { words = 5 ∷ 6 ∷ 7 ∷ 8 ∷ []; version = 6 }

-- the content of the cluster's copy; the word at address 100 is 2
abbrev pub new : Line
new = record { words = 1 ∷ 2 ∷ 3 ∷ 4 ∷ []; version = 7 }

-- the home's line with this entry
abbrev pub home_with : Entry → Home
home_with entry = record { mem = old; entry = entry }

-- hart 2 before its instruction, which is its fourth: t0 is 100, t1 is 65536, t2 is 7, a0 is 65, and a7 is this
abbrev pub hart_with : ℕ → HartState
hart_with a7 = record {
  pc = 4096;
  registers = slice_set (slice_set (slice_set (slice_set (slice_set (replicate 32 0) 5 100) 6 65536) 7 7) 10 65) 17 a7;
  retired = 3;
  end = Running;
}

-- nothing is held, asked for or under way, and the instruction is this
abbrev pub calm : ℕ → Scene
calm word = record {
  word = word;
  core = hart_with 93;
  reserved = None;
  buffer = [];
  asked = false;
  l1 = None;
  reserved_beside = None;
  l1_beside = None;
  copy = NoCopy;
  slot = NoSlot;
  acks = NoAcks;
  other = empty;
  apart = empty;
  home = home_with Uncached;
  lock = record { value = 0; count = 0; queue = [] };
}
