-- What the code's parts have where a hart may give up a line: another line with its index, which the hart wants.
use Rattle.std.specs.Prelude.{◌≡◌, ◌≢◌, ◌⊎◌, ℕ, ◌==◌, ◌&&◌, ◌%◌, Bool, true, false, not, Option, None, Some, is_some}
use Rattle.dash_base.specs.declared.id.LineId.{LineId}
use Rattle.snoop_bus.specs.Holding.{is_owner}
use Rattle.snoop_bus.specs.View.{BusView, is_holder, copy_of, owner_at}
use Rattle.remote_cache.specs.View.{SlotsView, slot_at}
use Rattle.remote_cache.specs.Steps.{came_in}
use Rattle.remote_cache.specs.declared.slot.Slot.{Slot as Request}
use Rattle.ack_counter.specs.View.{is_pending}
use Rattle.dash_event.specs.declared.event.Kind.{Kind}
use Rattle.dash_event.specs.declared.event.Kind.TheVariants as kind
use Rattle.dash_model.specs.Config.{Config, hart_id}
use Rattle.dash_model.specs.LineEffect.{has_copy, has_owner}
use Rattle.dash_model.specs.Part.{Part}
use Rattle.dash_model.specs.Wants.{NeedsCopy, FrontNeed, StoreNeed, CameFor, Wants}
use Rattle.unit_rows.specs.Shown.{PartsView, hart_at, Shows}

-- another line with the index of line l, of which this is so
pub record Another (w : Config) (l : ℕ) (IsSo : ℕ → Part → Type 0) (p : Part) : Type 0 where
  pub other : ℕ
  pub differs : other ≢ l
  pub index : other % w.top.l2 ≡ l % w.top.l2
  pub is_so : IsSo other p

-- an answer: on each part that the parts show there is one, or on none
abbrev pub Tells : Config → ℕ → PartsView → ℕ → (ℕ → Part → Type 0) → Bool → Type 0
Tells w c v l IsSo true = (p : Part) → Shows w c v p → Another w l IsSo p
Tells w c v l IsSo false = (p : Part) → Shows w c v p → Another w l IsSo p → ⊥

-- the causes for which hart h wants line q: it came for the hart, or the cluster has what the hart needs
abbrev pub ComesFor : ℕ → ℕ → Part → Type 0
ComesFor h q p = CameFor h (p.cells q).slot

abbrev pub CanRead : Config → ℕ → ℕ → Part → Type 0
CanRead w h q p = NeedsCopy w h q p × (has_copy (p.cells q).copy ≡ true)

abbrev pub CanWrite : Config → ℕ → ℕ → Part → Type 0
CanWrite w h q p = FrontNeed w h q p × (has_owner (p.cells q).copy ≡ true)

abbrev pub CanStore : Config → ℕ → ℕ → Part → Type 0
CanStore w h q p = StoreNeed w h q p × (has_owner (p.cells q).copy ≡ true)

-- whether a line that was found is another one with the index of line l, and whether the cluster has it
abbrev pub is_other : Config → Option LineId → ℕ → Bool
is_other w None l = false
is_other w (Some m) l = not (m.0 == l) && (m.0 % w.top.l2 == l % w.top.l2)

abbrev pub copy_found : BusView → Option LineId → Bool
copy_found b None = false
copy_found b (Some m) = is_some (copy_of b m.0)

abbrev pub owner_found : BusView → Option LineId → Bool
owner_found b None = false
owner_found b (Some m) = is_some (owner_at b m.0)

-- whether another line with the index of line l came to a slot, for hart k
abbrev pub came_other : Config → ℕ → ℕ → Option Request → Bool
came_other w k l None = false
came_other w k l (Some s) = (s.hart == k && is_some (came_in s.phase)) && is_other w (Some s.line) l

-- a slot to which one came
pub record CameToOne (w : Config) (v : SlotsView) (k l : ℕ) : Type 0 where
  pub slot : ℕ
  pub came : came_other w k l (slot_at v slot) ≡ true

abbrev pub SlotTells : Config → SlotsView → ℕ → ℕ → Bool → Type 0
SlotTells w v k l true = CameToOne w v k l
SlotTells w v k l false = (n : ℕ) → came_other w k l (slot_at v n) ≡ false

-- hart k holds line l, wants another one of its index, and is not an owner whose line is pending
pub record EvictFits (w : Config) (c : ℕ) (v : PartsView) (k l : ℕ) : Type 0 where
  pub holder : is_holder v.bus k l ≡ true
  pub other : (p : Part) → Shows w c v p → Another w l (Wants w (hart_at w c k)) p
  pub may_leave : (is_pending v.acks l ≡ false) ⊎ (is_owner (owner_at v.bus l) k ≡ false)

-- the event in which hart k gives up a line
abbrev pub event_of : Config → ℕ → ℕ → LineId → Kind
event_of w c k l = kind.Evict (hart_id (hart_at w c k)) l
