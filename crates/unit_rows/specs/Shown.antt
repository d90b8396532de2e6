-- What the parts of a unit show of its cluster's part of the machine.
use Rattle.std.specs.Prelude.{◌≡◌, ℕ, ◌+◌, ◌-◌, ◌*◌, ◌<◌, ◌%◌, Bool, true, cond, Option, Some, None, List, length, map, slice_index_or}
use Rattle.dash_base.specs.declared.id.WordAddr.{WordAddr}
use Rattle.dash_base.specs.Places.{line_count}
use Rattle.hart_core.specs.Meaning.{IsFront}
use Rattle.snoop_bus.specs.Holding.{Holding, has_hart}
use Rattle.snoop_bus.specs.View.{BusView, holding_at, in_hart_l1, harts as bus_harts}
use Rattle.remote_cache.specs.View.{SlotsView, slot_at, slot_of, count as slot_count}
use Rattle.remote_cache.specs.declared.slot.Phase.{Phase as Waits}
use Rattle.remote_cache.specs.declared.slot.Phase.TheVariants as waits
use Rattle.remote_cache.specs.declared.slot.Slot.{Slot as Request}
use Rattle.ack_counter.specs.View.{Counted, TableView, entry_at, owes}
use Rattle.directory.specs.View.{HomeView, is_home, kept_at}
use Rattle.directory.specs.Sharers.{is_sharer}
use Rattle.directory.specs.declared.entry.EntryState.{EntryState}
use Rattle.directory.specs.declared.entry.EntryState.TheVariants as entry
use Rattle.directory.specs.declared.home_line.HomeLine.{HomeLine}
use Rattle.queue_lock.specs.View.{LocksView, is_own, lock_at, Lock as LockView}
use Rattle.queue_lock.specs.declared.waiter.Waiter.{Waiter as Asker}
use Rattle.unit_rows.specs.declared.parts.Local.{Local}
use Rattle.unit_rows.specs.declared.parts.Parts.{Parts}
use Rattle.unit_rows.specs.declared.site.Site.{Site}
use Rattle.unit_rows.specs.Lists.{picked}
use Rattle.dash_model.specs.Config.{Config}
use Rattle.dash_model.specs.Cell.{Copy, NoCopy, Held, Phase, Asked, Poisoned, Came, Refused, Slot, NoSlot, Reads, Owns, Acks, NoAcks, Counting, Expects, Entry, Uncached, SharedBy, Dirty, Home}
use Rattle.dash_model.specs.Part.{Processor, Waiter, Lock, Part}
use Rattle.dash_model.specs.HartRows.{is_line}

-- the parts as contracts see them
pub record PartsView : Type 0 where
  pub locals : List Local
  pub bus : BusView
  pub slots : SlotsView
  pub acks : TableView
  pub home : HomeView
  pub locks : LocksView

abbrev pub shown : Parts → PartsView
shown p = record { locals = p.locals.items; bus = p.bus; slots = p.slots; acks = p.acks; home = p.home; locks = p.locks }

-- the image and the topology of a run
abbrev pub config : Site → Config
config site = record { image = site.image; top = site.topology }

-- the hart of cluster c with this number there, by its number in the machine
abbrev pub hart_at : Config → ℕ → ℕ → ℕ
hart_at w c k = c * w.top.harts + k

-- harts of cluster c that pass, by their numbers in the machine
unfoldable pub harts_by : Config → ℕ → (ℕ → Bool) → List ℕ
harts_by w c p = picked (λ h. p (h - c * w.top.harts)) (c * w.top.harts) w.top.harts

-- a line's copy
abbrev pub owner_by : Config → ℕ → Option ℕ → Option ℕ
owner_by w c None = None
owner_by w c (Some k) = Some (hart_at w c k)

abbrev pub copy_by : Config → ℕ → Option Holding → Copy
copy_by w c None = NoCopy
copy_by w c (Some h) = Held (harts_by w c (has_hart h.holders)) (owner_by w c h.owner) h.copy

-- a line's slot
abbrev pub phase_by : Waits → Phase
phase_by waits.Asked = Asked
phase_by waits.Poisoned = Poisoned
phase_by waits.Refused = Refused
phase_by (waits.Came line) = Came line

abbrev pub slot_by : Config → ℕ → ℕ → Option Request → Slot
slot_by w c n None = NoSlot
slot_by w c n (Some s) = cond s.own (Owns n (hart_at w c s.hart) (phase_by s.phase)) (Reads n (hart_at w c s.hart) (phase_by s.phase))

abbrev pub slot_in : Config → ℕ → SlotsView → Option ℕ → Slot
slot_in w c v None = NoSlot
slot_in w c v (Some n) = slot_by w c n (slot_at v n)

abbrev pub slot_on : Config → ℕ → SlotsView → ℕ → Slot
slot_on w c v l = slot_in w c v (slot_of v l)

-- a line's entry of acknowledgements
abbrev pub counted_by : Config → ℕ → Counted → Option ℕ → Acks
counted_by w c e None = Counting e.got (harts_by w c (owes e))
counted_by w c e (Some n) = Expects n e.got (harts_by w c (owes e))

abbrev pub acks_by : Config → ℕ → Option Counted → Acks
acks_by w c None = NoAcks
acks_by w c (Some e) = counted_by w c e e.expected

-- a line at its home
abbrev pub entry_by : Config → EntryState → Entry
entry_by w entry.Uncached = Uncached
entry_by w (entry.Shared s) = SharedBy (picked (is_sharer s) 0 w.top.clusters)
entry_by w (entry.Dirty o) = Dirty o.0

abbrev pub home_by : Config → HomeLine → Home
home_by w k = record { mem = k.content; entry = entry_by w k.entry }

-- a lock word
abbrev pub waiter_by : Asker → Waiter
waiter_by x = record { hart = x.hart.0; number = x.number; value = x.value }

abbrev pub lock_by : LockView → Lock
lock_by l = record { value = l.value; count = l.count; queue = map waiter_by l.queue }

-- the address of a hart's reservation
abbrev pub reserved_by : Option WordAddr → Option ℕ
reserved_by None = None
reserved_by (Some word) = Some word.0

-- a hart: of its L1 the part has what it tells of each line
pub record ShowsHart (w : Config) (b : BusView) (k : ℕ) (x : Local) (s : Processor) : Type 0 where
  pub core : s.core ≡ x.core
  pub reserved : s.reserved ≡ reserved_by x.reserved
  pub buffer : s.buffer ≡ x.buffer.items
  pub asked : s.asked ≡ x.asked
  pub l1 : (q : ℕ) → is_line q (s.l1 (q % w.top.l1)) ≡ in_hart_l1 b k q

-- the parts show this part of cluster c: its own harts, all lines, and the lines and lock words whose home it is
pub record Shows (w : Config) (c : ℕ) (v : PartsView) (p : Part) : Type 0 where
  pub harts : (k : ℕ) (d : Local) → k < w.top.harts → ShowsHart w v.bus k (slice_index_or v.locals k d) (p.harts (hart_at w c k))
  pub copies : (l : ℕ) → (p.cells l).copy ≡ copy_by w c (holding_at v.bus l)
  pub slots : (l : ℕ) → (p.cells l).slot ≡ slot_on w c v.slots l
  pub acks : (l : ℕ) → (p.cells l).acks ≡ acks_by w c (entry_at v.acks l)
  pub homes : (l : ℕ) → is_home v.home l ≡ true → p.homes l ≡ home_by w (kept_at v.home l)
  pub locks : (i : ℕ) → is_own v.locks i ≡ true → p.locks i ≡ lock_by (lock_at v.locks i)

-- the next instruction that was found for a hart is its next instruction
abbrev pub HasFront : Config → Local → Type 0
HasFront w x = IsFront w.image w.top x.core x.front

-- the parts have the sizes of the topology, slots and acknowledgements are of its harts and lines, and each hart's next instruction was found
pub record AreSized (w : Config) (c : ℕ) (v : PartsView) : Type 0 where
  pub locals : length v.locals ≡ w.top.harts
  pub buffers : (k : ℕ) (d : Local) → k < w.top.harts → (slice_index_or v.locals k d).buffer.capacity ≡ w.top.buffer
  pub fronts : (k : ℕ) (d : Local) → k < w.top.harts → HasFront w (slice_index_or v.locals k d)
  pub bus_harts : bus_harts v.bus ≡ w.top.harts
  pub l1 : v.bus.l1_lines ≡ w.top.l1
  pub l2 : v.bus.l2_lines ≡ w.top.l2
  pub slot_harts : v.slots.harts ≡ w.top.harts
  pub slot_count : slot_count v.slots ≡ 2 * w.top.harts + w.top.prefetch
  pub slots_in_range : (n : ℕ) (s : Request) → slot_at v.slots n ≡ Some s → (s.hart < w.top.harts) × (s.line.0 < line_count w.top)
  pub acks : v.acks.capacity ≡ w.top.acks
  pub acks_in_range : (l : ℕ) (e : Counted) → entry_at v.acks l ≡ Some e → l < line_count w.top
  pub home_cluster : v.home.cluster ≡ c
  pub home_clusters : v.home.clusters ≡ w.top.clusters
  pub home_lines : v.home.lines ≡ line_count w.top
  pub lock_cluster : v.locks.cluster ≡ c
  pub lock_clusters : v.locks.clusters ≡ w.top.clusters
  pub lock_words : v.locks.locks ≡ w.top.locks
  pub lock_harts : v.locks.harts ≡ w.top.clusters * w.top.harts
