-- What a call of a unit's core does: one event of a choice, or none.
use Rattle.std.specs.Prelude.{◌≡◌, ◌≢◌, ℕ, ◌-◌, false, List, [], ◌∷◌, ◌++◌, length, slice_index_or, slice_get}
use mathlib.Core.List.{IsPrefix}
use Rattle.dash_base.specs.declared.id.ClusterId.{ClusterId}
use Rattle.dash_msg.specs.Classes.{class_of}
use Rattle.dash_msg.specs.declared.classes.Class.{Class}
use Rattle.dash_msg.specs.declared.parcel.Parcel.{Parcel}
use Rattle.dash_event.specs.declared.event.Kind.{Kind}
use Rattle.mesh_lanes.specs.View.{OutletView, InletView}
use Rattle.dash_model.specs.Net.{parcel}
use Rattle.dash_model.specs.Machine.{taken}
use Rattle.dash_model.specs.Part.{Part}
use Rattle.unit_rows.specs.declared.choice.Choice.{Choice}
use Rattle.unit_rows.specs.declared.choice.Choice.TheVariants.{Take}
use Rattle.unit_rows.specs.Choices.{IsOf}
use Rattle.unit_rows.specs.Rows.{Enabled}
use Rattle.unit_rows.specs.Local.{event_at}
use Rattle.cluster_unit.specs.declared.turn.Turn.{Turn}
use Rattle.cluster_unit.specs.declared.turn.Turn.TheVariants.{Did, Idle}
use Rattle.cluster_unit.specs.View.{CoreView}
use Rattle.cluster_unit.specs.Ends.{place, knows}
use Rattle.cluster_unit.specs.Core.{IsAt}

-- the choice is not enabled on the part that the log leads to
abbrev pub IsIdle : CoreView → Choice → Type 0
IsIdle a choice = (p : Part) → IsAt a p → Enabled a.config a.cluster choice p → ⊥

-- nothing happened but that one turn was used
abbrev pub spent : CoreView → CoreView
spent a = record a { reserved = a.reserved - 1 }

-- the ends that send are of the same lanes
abbrev pub SameOutlets : List OutletView → List OutletView → Type 0
SameOutlets old new = (length new ≡ length old) × ((j : ℕ) (x : OutletView) → (slice_index_or new j x).lane ≡ (slice_index_or old j x).lane)

-- one event happened, which does this choice
pub record Happened (choice : Choice) (a b : CoreView) : Type 0 where
  pub event : Kind
  pub stamp : ℕ
  pub is_of : IsOf a.config a.cluster choice event
  pub log : b.log ≡ a.log ++ event_at a.cluster stamp event ∷ []
  pub config : b.config ≡ a.config
  pub cluster : b.cluster ≡ a.cluster
  pub reserved : b.reserved ≡ a.reserved - 1
  pub outlets : SameOutlets a.outlets b.outlets

-- a choice that takes no message was done, or is not enabled
abbrev pub Acted : Choice → Turn → CoreView → CoreView → Type 0
Acted choice Did a b = Happened choice a b × (b.inlets ≡ a.inlets)
Acted choice Idle a b = IsIdle a choice × (b ≡ spent a)

-- all inlets but one are as they were, and that one is of the same lane
pub record OthersStay (at : ℕ) (old new : List InletView) : Type 0 where
  pub count : length new ≡ length old
  pub lane : (x : InletView) → (slice_index_or new at x).lane ≡ (slice_index_or old at x).lane
  pub others : (j : ℕ) (x : InletView) → j ≢ at → slice_index_or new j x ≡ slice_index_or old j x

-- the next message of a lane was taken, by an event that takes just it
pub record Received (from : ClusterId) (k : Class) (a b : CoreView) : Type 0 where
  pub got : Parcel
  pub happened : Happened (Take from (class_of got.msg)) a b
  pub takes : taken a.cluster got.stamp happened.event ≡ parcel from.0 a.cluster got.msg got.stamp ∷ []
  pub next : (x : InletView) → IsPrefix (slice_index_or a.inlets (place from.0 k) x).known (got ∷ (slice_index_or b.inlets (place from.0 k) x).known)
  pub received : (x : InletView) → (slice_index_or b.inlets (place from.0 k) x).received ≡ (slice_index_or a.inlets (place from.0 k) x).received ++ got ∷ []
  pub others : OthersStay (place from.0 k) a.inlets b.inlets

-- the lane showed none, and nothing happened
pub record ShowsNone (from : ClusterId) (k : Class) (a b : CoreView) : Type 0 where
  pub none : knows (slice_get b.inlets (place from.0 k)) ≡ false
  pub before : knows (slice_get a.inlets (place from.0 k)) ≡ false
  pub received : (x : InletView) → (slice_index_or b.inlets (place from.0 k) x).received ≡ (slice_index_or a.inlets (place from.0 k) x).received
  pub others : OthersStay (place from.0 k) a.inlets b.inlets
  pub same : b ≡ record a { inlets = b.inlets; reserved = a.reserved - 1 }

abbrev pub TookFrom : ClusterId → Class → Turn → CoreView → CoreView → Type 0
TookFrom from k Did a b = Received from k a b
TookFrom from k Idle a b = ShowsNone from k a b
