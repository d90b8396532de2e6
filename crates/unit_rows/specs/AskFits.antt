-- What the code's parts have where a slot may ask for a line.
use Rattle.std.specs.Prelude.{◌≡◌, ℕ, ◌<◌, Bool, true, false, cond, Option, None, Some, is_some, slice_index_or}
use Rattle.dash_base.specs.declared.id.LineId.{LineId}
use Rattle.dash_base.specs.Places.{line_count}
use Rattle.snoop_bus.specs.View.{BusView, copy_of, owner_at}
use Rattle.remote_cache.specs.View.{slot_at, slot_of}
use Rattle.remote_cache.specs.Steps.{issued}
use Rattle.remote_cache.specs.declared.slot.Slot.{Slot as Request}
use Rattle.ack_counter.specs.View.{TableView, has_room}
use Rattle.ack_counter.specs.Steps.{begun}
use Rattle.dash_model.specs.Config.{Config, cluster_of}
use Rattle.dash_model.specs.LineEffect.{has_copy, has_owner}
use Rattle.dash_model.specs.LocalHarts.{AreOfMemory}
use Rattle.dash_model.specs.Part.{Part}
use Rattle.dash_model.specs.Wants.{NeedsCopy, FrontNeed, StoreNeed, AsksFor}
use Rattle.dash_model.specs.Words.{AcksHaveRoom}
use Rattle.unit_rows.specs.declared.parts.Local.{Local}
use Rattle.unit_rows.specs.Shown.{PartsView, hart_at, Shows}

-- each store that waits in the cluster is to a word of memory
pub record StoresAreOfMemory (w : Config) (v : PartsView) : Type 0 where
  pub inside : (k : ℕ) (d : Local) → k < w.top.harts → AreOfMemory w (slice_index_or v.locals k d).buffer.items

-- the cluster has no owner of line q, and room to count its acknowledgements
abbrev pub MayOwn : Config → ℕ → Part → Type 0
MayOwn w q p = (has_owner (p.cells q).copy ≡ false) × AcksHaveRoom w p

-- the causes for which hart h asks for line q: to read it or to own it for its instruction, or to own it for its oldest store
abbrev pub ToRead : Config → ℕ → ℕ → Part → Type 0
ToRead w h q p = NeedsCopy w h q p × (has_copy (p.cells q).copy ≡ false)

abbrev pub ToWrite : Config → ℕ → ℕ → Part → Type 0
ToWrite w h q p = FrontNeed w h q p × MayOwn w q p

abbrev pub ToStore : Config → ℕ → ℕ → Part → Type 0
ToStore w h q p = StoreNeed w h q p × MayOwn w q p

-- a line that was found, unless the cluster has a copy of it
abbrev pub uncopied : BusView → Option LineId → Option LineId
uncopied b None = None
uncopied b (Some l) = cond (is_some (copy_of b l.0)) None (Some l)

-- a line that was found, unless the cluster has an owner of it, or no room to count its acknowledgements
abbrev pub unowned : BusView → TableView → Option LineId → Option LineId
unowned b t None = None
unowned b t (Some l) = cond (is_some (owner_at b l.0)) None (cond (has_room t) (Some l) None)

-- slot n has cause for this request, on each part that the parts show, and for no request of another line
pub record HasCause (w : Config) (c : ℕ) (v : PartsView) (n : ℕ) (r : Request) : Type 0 where
  pub asked : r ≡ issued r.hart r.line r.own
  pub local : r.hart < w.top.harts
  pub inside : r.line.0 < line_count w.top
  pub room : r.own ≡ true → has_room v.acks ≡ true
  pub cause : (p : Part) → Shows w c v p → AsksFor w c n (hart_at w c r.hart) r.line.0 p r.own
  pub only : (p : Part) (h l : ℕ) (own : Bool) → Shows w c v p → cluster_of w h ≡ c → AsksFor w c n h l p own → l ≡ r.line.0

-- it has cause for just this request, or for none
abbrev pub CausesJust : Config → ℕ → PartsView → ℕ → Option Request → Type 0
CausesJust w c v n None = (p : Part) (h l : ℕ) (own : Bool) → Shows w c v p → cluster_of w h ≡ c → AsksFor w c n h l p own → ⊥
CausesJust w c v n (Some r) = HasCause w c v n r

-- slot n is empty, no slot has line l, and on each part that the parts show the slot has cause to ask for it, for hart k
pub record AskFits (w : Config) (c : ℕ) (v : PartsView) (n k l : ℕ) (own : Bool) : Type 0 where
  pub empty : slot_at v.slots n ≡ None
  pub lone : slot_of v.slots l ≡ None
  pub cause : (p : Part) → Shows w c v p → AsksFor w c n (hart_at w c k) l p own

-- slot n may make this request: it is of a hart of the cluster, and of a line of memory
pub record RequestFits (w : Config) (c : ℕ) (v : PartsView) (n : ℕ) (r : Request) : Type 0 where
  pub asked : r ≡ issued r.hart r.line r.own
  pub local : r.hart < w.top.harts
  pub inside : r.line.0 < line_count w.top
  pub room : r.own ≡ true → has_room v.acks ≡ true
  pub fits : AskFits w c v n r.hart r.line.0 r.own

-- of a line to own the acknowledgements are counted from here on
abbrev pub asked_acks : TableView → ℕ → Bool → TableView
asked_acks t l true = begun t l
asked_acks t l false = t
