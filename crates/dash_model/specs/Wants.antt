-- What the harts of a cluster need and want of a line, and which slot may ask for it.
use Rattle.std.specs.Prelude.{◌≡◌, ◌⊎◌, ℕ, ◌<◌, ◌≤◌, Bool, true, false, None, Some, List, [], ◌∷◌}
use Rattle.dash_base.specs.declared.ops.AmoOp.TheVariants.{Sc}
use Rattle.dash_base.specs.declared.need.HintKind.{HintKind}
use Rattle.dash_base.specs.declared.need.HintKind.TheVariants.{Fetch, Shared, Exclusive}
use Rattle.write_buffer.specs.Look.{newest_of, look_by}
use Rattle.write_buffer.specs.declared.entry.Entry.{Entry as Stored}
use Rattle.write_buffer.specs.declared.entry.Look.TheVariants.{None as NoStore}
use Rattle.hart_core.specs.Access.{in_memory}
use Rattle.hart_core.specs.Meaning.{Needs}
use Rattle.dash_base.specs.declared.need.Need.{Need}
use Rattle.dash_base.specs.declared.need.Need.TheVariants.{Load, Rmw}
use Rattle.dash_model.specs.Config.{Config, line_at, front_slot, store_slot, first_prefetch, end_prefetch}
use Rattle.dash_model.specs.Cell.{Came, Slot, NoSlot, Reads, Owns}
use Rattle.dash_model.specs.LineEffect.{has_copy, has_owner}
use Rattle.dash_model.specs.Part.{Processor, Part}
use Rattle.dash_model.specs.Words.{held_by, in_m, AcksHaveRoom, IsEmptySlot}

-- the instruction is a load in line l of which the buffer says nothing, or an LR in l of whose word no store waits
abbrev pub LoadsFrom : Config → ℕ → Processor → Need → Type 0
LoadsFrom w l s (Load word mask labels true) = (line_at w word.0 ≡ l) × (newest_of word.0 s.buffer ≡ None)
LoadsFrom w l s (Load word mask labels false) = (line_at w word.0 ≡ l) × (look_by (newest_of word.0 s.buffer) mask ≡ NoStore)
LoadsFrom w l s need = ⊥

-- hart h needs a copy of line l: its instruction loads from l, and it is no holder
pub record NeedsCopy (w : Config) (h l : ℕ) (p : Part) : Type 0 where
  pub need : Need
  pub needs : Needs w.image w.top (p.harts h).core need
  pub loads : LoadsFrom w l (p.harts h) need
  pub lacks : held_by h (p.cells l).copy ≡ false

-- the instruction is an atomic operation in line l, or an SC in l whose word is the reservation
abbrev pub WritesTo : Config → ℕ → Processor → Need → Type 0
WritesTo w l s (Rmw word Sc operand labels) = (line_at w word.0 ≡ l) × (s.reserved ≡ Some word.0)
WritesTo w l s (Rmw word op operand labels) = line_at w word.0 ≡ l
WritesTo w l s need = ⊥

-- hart h needs to own line l for its instruction
pub record FrontNeed (w : Config) (h l : ℕ) (p : Part) : Type 0 where
  pub need : Need
  pub needs : Needs w.image w.top (p.harts h).core need
  pub writes : WritesTo w l (p.harts h) need
  pub lacks : in_m h (p.cells l).copy ≡ false

-- the oldest store that waits is in line l
abbrev pub HeadIn : Config → ℕ → List Stored → Type 0
HeadIn w l [] = ⊥
HeadIn w l (e ∷ es) = line_at w e.word.0 ≡ l

-- hart h needs to own line l for its oldest store
pub record StoreNeed (w : Config) (h l : ℕ) (p : Part) : Type 0 where
  pub oldest : HeadIn w l (p.harts h).buffer
  pub lacks : in_m h (p.cells l).copy ≡ false

-- hart h needs to own line l
abbrev pub NeedsOwn : Config → ℕ → ℕ → Part → Type 0
NeedsOwn w h l p = FrontNeed w h l p ⊎ StoreNeed w h l p

-- the line came to a slot of hart h
abbrev pub CameFor : ℕ → Slot → Type 0
CameFor h (Reads n t (Came d)) = t ≡ h
CameFor h (Owns n t (Came d)) = t ≡ h
CameFor h s = ⊥

-- hart h wants line l: it came for it, or its cluster has what it needs
pub data Wants (w : Config) (h l : ℕ) (p : Part) : Type 0 where
  ToInstall : CameFor h (p.cells l).slot → Wants w h l p
  ToRead : NeedsCopy w h l p → has_copy (p.cells l).copy ≡ true → Wants w h l p
  ToOwn : NeedsOwn w h l p → has_owner (p.cells l).copy ≡ true → Wants w h l p

-- why slot n of hart h asks for line l: the front slot to read, or to own; or the store slot to own. The cluster has no copy, or no owner
pub data AsksFor (w : Config) (c n h l : ℕ) (p : Part) : Bool → Type 0 where
  FrontReads : n ≡ front_slot w c h → NeedsCopy w h l p → has_copy (p.cells l).copy ≡ false → AsksFor w c n h l p false
  FrontOwns : n ≡ front_slot w c h → FrontNeed w h l p → has_owner (p.cells l).copy ≡ false → AcksHaveRoom w p → AsksFor w c n h l p true
  StoreOwns : n ≡ store_slot w c h → StoreNeed w h l p → has_owner (p.cells l).copy ≡ false → AcksHaveRoom w p → AsksFor w c n h l p true

-- slot n of hart h may ask for line l: it is empty, and no slot has the line
pub record MayAsk (w : Config) (c n h l : ℕ) (own : Bool) (p : Part) : Type 0 where
  pub empty : IsEmptySlot n p
  pub lone : (p.cells l).slot ≡ NoSlot
  pub cause : AsksFor w c n h l p own

-- what a hint of this kind needs of its line to open a slot
abbrev pub KindOpens : Config → HintKind → ℕ → Part → Type 0
KindOpens w Fetch l p = ⊥
KindOpens w Shared l p = has_copy (p.cells l).copy ≡ false
KindOpens w Exclusive l p = (has_owner (p.cells l).copy ≡ false) × AcksHaveRoom w p

-- n is the least prefetch slot that is empty
pub record IsLeastEmpty (w : Config) (n : ℕ) (p : Part) : Type 0 where
  pub from : first_prefetch w ≤ n
  pub below : n < end_prefetch w
  pub empty : IsEmptySlot n p
  pub least : (m : ℕ) → first_prefetch w ≤ m → m < n → IsEmptySlot m p → ⊥

-- a hint at an address opens slot n
pub record Opens (w : Config) (kind : HintKind) (address n : ℕ) (p : Part) : Type 0 where
  pub inside : in_memory w.top address 1 ≡ true
  pub lone : (p.cells (line_at w address)).slot ≡ NoSlot
  pub slot : IsLeastEmpty w n p
  pub kinds : KindOpens w kind (line_at w address) p
