-- What a search for the first choice by which a cluster settles tells.
use Rattle.std.specs.Prelude.{◌≡◌, ℕ, ◌<◌, true, false, Option, None, Some, List, slice_get}
use Rattle.dash_base.specs.declared.id.LineId.{LineId}
use Rattle.dash_msg.specs.declared.classes.Class.{Class}
use Rattle.dash_msg.specs.declared.classes.Class.TheVariants.{Request, Reply}
use Rattle.mesh_lanes.specs.View.{InletView}
use Rattle.dash_model.specs.Config.{Config, cluster_id}
use Rattle.dash_model.specs.Part.{Part}
use Rattle.dash_model.specs.Settling.{IsInTheWay}
use Rattle.unit_rows.specs.declared.choice.Choice.{Choice}
use Rattle.unit_rows.specs.declared.choice.Choice.TheVariants.{Evict, Take}
use Rattle.unit_rows.specs.Shown.{PartsView, hart_at, Shows}
use Rattle.unit_rows.specs.Rows.{Enabled, Can, Cannot}
use Rattle.cluster_unit.specs.Enabling.{is_take}
use Rattle.cluster_unit.specs.Ends.{place, knows}
use Rattle.cluster_unit.specs.Settling.{IsSettling, SettlesBefore}

-- an end of the lanes from cluster f shows a message of this class, and of none before it
pub record IsFirstClass (xs : List InletView) (f : ℕ) (k : Class) : Type 0 where
  pub shows : knows (slice_get xs (place f k)) ≡ true
  pub before : k ≡ Reply → knows (slice_get xs (place f Request)) ≡ false

abbrev pub FirstClass : List InletView → ℕ → Option Class → Type 0
FirstClass xs f None = (k : Class) → knows (slice_get xs (place f k)) ≡ false
FirstClass xs f (Some k) = IsFirstClass xs f k

-- of n clusters, this is the first from which one shows a message
pub record IsFirstTake (xs : List InletView) (n : ℕ) (x : Choice) : Type 0 where
  pub from : ℕ
  pub class : Class
  pub below : from < n
  pub is : x ≡ Take (cluster_id from) class
  pub first : IsFirstClass xs from class
  pub before : (f : ℕ) (k : Class) → f < from → knows (slice_get xs (place f k)) ≡ false

abbrev pub FirstTake : List InletView → ℕ → Option Choice → Type 0
FirstTake xs n None = (f : ℕ) (k : Class) → f < n → knows (slice_get xs (place f k)) ≡ false
FirstTake xs n (Some x) = IsFirstTake xs n x

-- the first enabled choice of a kind that goes by one number
pub record IsFirstOf (w : Config) (c : ℕ) (v : PartsView) (of : ℕ → Choice) (x : Choice) : Type 0 where
  pub number : ℕ
  pub is : x ≡ of number
  pub can : Can w c v (of number)
  pub before : (i : ℕ) → i < number → Cannot w c v (of i)

abbrev pub FirstOf : Config → ℕ → PartsView → (ℕ → Choice) → Option Choice → Type 0
FirstOf w c v of None = (i : ℕ) → Cannot w c v (of i)
FirstOf w c v of (Some x) = IsFirstOf w c v of x

-- the choice is not enabled, or the cluster does not settle by it
abbrev pub CannotSettle : Config → ℕ → PartsView → Choice → Type 0
CannotSettle w c v x = (p : Part) → Shows w c v p → Enabled w c x p → IsSettling w c x p → ⊥

-- the line is in the way of one that came for hart k
abbrev pub IsWay : Config → ℕ → PartsView → ℕ → ℕ → Type 0
IsWay w c v k l = (p : Part) → Shows w c v p → IsInTheWay w (hart_at w c k) l p

-- the first line in the way that hart k may give up
pub record IsFirstLine (w : Config) (c : ℕ) (v : PartsView) (k : ℕ) (x : Choice) : Type 0 where
  pub line : LineId
  pub is : x ≡ Evict k line
  pub can : Can w c v (Evict k line)
  pub way : IsWay w c v k line.0
  pub before : (m : LineId) → m.0 < line.0 → CannotSettle w c v (Evict k m)

abbrev pub FirstLine : Config → ℕ → PartsView → ℕ → Option Choice → Type 0
FirstLine w c v k None = (m : LineId) → CannotSettle w c v (Evict k m)
FirstLine w c v k (Some x) = IsFirstLine w c v k x

-- and the first hart that has one
pub record IsFirstHart (w : Config) (c : ℕ) (v : PartsView) (x : Choice) : Type 0 where
  pub hart : ℕ
  pub first : IsFirstLine w c v hart x
  pub before : (h : ℕ) (m : LineId) → h < hart → CannotSettle w c v (Evict h m)

abbrev pub FirstHart : Config → ℕ → PartsView → Option Choice → Type 0
FirstHart w c v None = (h : ℕ) (m : LineId) → CannotSettle w c v (Evict h m)
FirstHart w c v (Some x) = IsFirstHart w c v x

-- the first of them all, but for those to take a message
pub record IsFirstOwn (w : Config) (c : ℕ) (v : PartsView) (x : Choice) : Type 0 where
  pub own : is_take x ≡ false
  pub can : Can w c v x
  pub settles : (p : Part) → Shows w c v p → IsSettling w c x p
  pub first : (y : Choice) (p : Part) → Shows w c v p → is_take y ≡ false → Enabled w c y p → IsSettling w c y p → SettlesBefore w c p y x → ⊥

abbrev pub FirstOwn : Config → ℕ → PartsView → Option Choice → Type 0
FirstOwn w c v None = (y : Choice) → is_take y ≡ false → CannotSettle w c v y
FirstOwn w c v (Some x) = IsFirstOwn w c v x

-- a message that was found comes before them
abbrev pub FirstAfter : Config → ℕ → PartsView → Option Choice → Option Choice → Type 0
FirstAfter w c v None found = FirstOwn w c v found
FirstAfter w c v (Some x) found = found ≡ Some x
