-- The choices that a unit lists, and the one that it does.
use Rattle.std.specs.Prelude.{◌≡◌, ℕ, ◌<◌, ◌≤◌, true, false, List, [], length, slice_index_or, slice_get}
use Rattle.std.specs.List.{Contains}
use Rattle.dash_base.specs.declared.id.ClusterId.{ClusterId}
use Rattle.dash_msg.specs.declared.classes.Class.{Class}
use Rattle.dash_model.specs.Part.{Part}
use Rattle.unit_rows.specs.declared.choice.Choice.{Choice}
use Rattle.unit_rows.specs.declared.choice.Choice.TheVariants.{Take}
use Rattle.unit_rows.specs.Rows.{Enabled}
use Rattle.cluster_unit.specs.declared.turn.Turn.{Turn}
use Rattle.cluster_unit.specs.declared.turn.Turn.TheVariants.{Did, Idle}
use Rattle.cluster_unit.specs.View.{CoreView}
use Rattle.cluster_unit.specs.Enabling.{is_take}
use Rattle.cluster_unit.specs.Ends.{place, knows, Looked}
use Rattle.cluster_unit.specs.Order.{AreInOrder}
use Rattle.cluster_unit.specs.Core.{IsAt}
use Rattle.cluster_unit.specs.Turns.{spent, Acted, TookFrom}

-- the lane of a class from a cluster of the machine showed a message
pub record Shown (a : CoreView) (from : ClusterId) (k : Class) : Type 0 where
  pub low : from.0 < a.config.top.clusters
  pub some : knows (slice_get a.inlets (place from.0 k)) ≡ true

-- a choice may be done: to take a message, where the lane shows one; any other, where it is enabled on the part that the log leads to
abbrev pub MayDo : CoreView → Choice → Part → Type 0
MayDo a (Take from k) p = Shown a from k
MayDo a x p = Enabled a.config a.cluster x p

-- just the choices that may be done, each once, in their order, where the core was looked at and is this now
pub record Lists (a b : CoreView) (choices : List Choice) : Type 0 where
  pub same : b ≡ record a { inlets = b.inlets }
  pub looked : Looked a.inlets b.inlets
  pub just : (x : Choice) (p : Part) → Contains choices x → IsAt b p → MayDo b x p
  pub whole : (x : Choice) (p : Part) → IsAt b p → MayDo b x p → Contains choices x
  pub ordered : (p : Part) → IsAt b p → AreInOrder b.config b.cluster p choices

-- no choice is enabled but to take a message: what comes next, comes by a lane
abbrev pub Rests : CoreView → Type 0
Rests a = (x : Choice) (p : Part) → IsAt a p → is_take x ≡ false → Enabled a.config a.cluster x p → ⊥

-- what a choice does
abbrev pub Performed : Choice → Turn → CoreView → CoreView → Type 0
Performed (Take from k) t a b = (from.0 < a.config.top.clusters → TookFrom from k t a b) × (a.config.top.clusters ≤ from.0 → (t ≡ Idle) × (b ≡ spent a))
Performed x t a b = Acted x t a b

-- a turn: the choices are listed, and where there is any, the one of this number is done
pub record Chose (number : ℕ) (choices : List Choice) (t : Turn) (a b : CoreView) : Type 0 where
  pub listed : CoreView
  pub lists : Lists a listed choices
  pub none : choices ≡ [] → (t ≡ Idle) × (b ≡ spent listed)
  pub one : (x : Choice) → 0 < length choices → (t ≡ Did) × Performed (slice_index_or choices number x) Did listed b
