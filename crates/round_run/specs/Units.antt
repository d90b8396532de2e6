-- The units of a machine, side by side. All is said of lists of any type, by what is seen of an element.
use Rattle.std.specs.Prelude.{◌≡◌, ◌⊎◌, ℕ, ◌<◌, ◌≤◌, List, [], ◌++◌, length, slice_index_or}
use mathlib.Core.List.{IsPrefix}
use Rattle.dash_base.specs.declared.topology.Topology.{Topology}
use Rattle.dash_msg.specs.declared.classes.Class.{Class}
use Rattle.dash_msg.specs.declared.parcel.Parcel.{Parcel}
use Rattle.mesh_lanes.specs.View.{OutletView, InletView}
use Rattle.dash_model.specs.Part.{Part}
use Rattle.unit_rows.specs.declared.choice.Choice.TheVariants.{Grant}
use Rattle.unit_rows.specs.Rows.{Enabled}
use Rattle.cluster_unit.specs.View.{CoreView}
use Rattle.cluster_unit.specs.Core.{IsAt}
use Rattle.cluster_unit.specs.Ends.{place}
use Rattle.cluster_unit.specs.Meeting.{EndsMet}
use Rattle.cluster_unit.specs.Wiring.{AreWired}

-- what is seen of a unit: its core, how many turns it had, how many other steps, and how far these were ahead of the turns
pub record UnitView : Type 0 where
  pub core : CoreView
  pub turns : ℕ
  pub steps : ℕ
  pub ahead : ℕ

abbrev pub seen : CoreView → ℕ → ℕ → ℕ → UnitView
seen core turns steps ahead = record { core = core; turns = turns; steps = steps; ahead = ahead }

-- it is the same cluster of the same machine, with the same ends of lanes
pub record IsSame (a b : CoreView) : Type 0 where
  pub config : b.config ≡ a.config
  pub cluster : b.cluster ≡ a.cluster
  pub outlets : (j : ℕ) (x : OutletView) → (slice_index_or b.outlets j x).lane ≡ (slice_index_or a.outlets j x).lane
  pub inlets : (j : ℕ) (x : InletView) → (slice_index_or b.inlets j x).lane ≡ (slice_index_or a.inlets j x).lane

-- and its counts stand
pub record HasCounts (a b : UnitView) : Type 0 where
  pub same : IsSame a.core b.core
  pub turns : b.turns ≡ a.turns
  pub steps : b.steps ≡ a.steps
  pub ahead : b.ahead ≡ a.ahead

-- and nothing happened there: its log stands, what its ends sent and received, and what is left to settle; what was known still is
pub record OnlyMet (a b : UnitView) : Type 0 where
  pub counts : HasCounts a b
  pub log : b.core.log ≡ a.core.log
  pub weight : b.core.weight ≡ a.core.weight
  pub outlets : length b.core.outlets ≡ length a.core.outlets
  pub inlets : length b.core.inlets ≡ length a.core.inlets
  pub sent : (j : ℕ) (x : OutletView) → (slice_index_or b.core.outlets j x).sent ≡ (slice_index_or a.core.outlets j x).sent
  pub received : (j : ℕ) (x : InletView) → (slice_index_or b.core.inlets j x).received ≡ (slice_index_or a.core.inlets j x).received
  pub known : (j : ℕ) (x : InletView) → IsPrefix (slice_index_or a.core.inlets j x).known (slice_index_or b.core.inlets j x).known

-- the two ends of a lane met since: what was received begins what was sent, and where there is more the receiving end knows of some
pub record IsShown (out : OutletView) (inlet : InletView) : Type 0 where
  pub rest : List Parcel
  pub begins : inlet.received ++ rest ≡ out.sent
  pub known : (rest ≡ []) ⊎ (0 < length inlet.known)

-- no lane into it shows a message
abbrev pub ShowsNone : CoreView → Type 0
ShowsNone a = (f : ℕ) (k : Class) (y : InletView) → f < a.config.top.clusters → (slice_index_or a.inlets (place f k) y).known ≡ []

-- no lock word of its home can be granted
abbrev pub NoneToGrant : CoreView → Type 0
NoneToGrant a = (i : ℕ) (p : Part) → IsAt a p → Enabled a.config a.cluster (Grant i) p → ⊥

module _ {U : Type 0} (view : U → UnitView) where
  -- each unit became what it is by such a change
  pub record Each (R : UnitView → UnitView → Type 0) (us vs : List U) : Type 0 where
    pub count : length vs ≡ length us
    pub each : (c : ℕ) (d : U) → c < length us → R (view (slice_index_or us c d)) (view (slice_index_or vs c d))

  -- the units of a machine's clusters stand in their order, with the lanes between them
  pub record IsMesh (t : Topology) (us : List U) : Type 0 where
    pub count : length us ≡ t.clusters
    pub top : (c : ℕ) (d : U) → c < length us → (view (slice_index_or us c d)).core.config.top ≡ t
    pub cluster : (c : ℕ) (d : U) → c < length us → (view (slice_index_or us c d)).core.cluster ≡ c
    pub wired : AreWired (λ u. (view u).core) us

  -- the two ends of the lane of a class from unit a to unit b met, with so many messages
  abbrev pub IsMet : Class → ℕ → ℕ → ℕ → List U → Type 0
  IsMet k count a b us = (d e : U) (x : OutletView) (y : InletView)
      → EndsMet count (slice_index_or (view (slice_index_or us a d)).core.outlets (place b k) x) (slice_index_or (view (slice_index_or us b e)).core.inlets (place a k) y)

  -- the ends of each lane from unit a to unit b met since
  abbrev pub HaveMet : List U → ℕ → ℕ → Type 0
  HaveMet us a b = (k : Class) (d e : U) (x : OutletView) (y : InletView)
      → IsShown (slice_index_or (view (slice_index_or us a d)).core.outlets (place b k) x) (slice_index_or (view (slice_index_or us b e)).core.inlets (place a k) y)

  -- and of each to each other
  abbrev pub AllHaveMet : List U → Type 0
  AllHaveMet us = (a b : ℕ) → a < length us → b < length us → HaveMet us a b

  -- all that unit a sent to unit b was received
  abbrev pub IsEmptied : List U → ℕ → ℕ → Type 0
  IsEmptied us a b = (k : Class) (d e : U) (x : OutletView) (y : InletView)
      → (slice_index_or (view (slice_index_or us a d)).core.outlets (place b k) x).sent ≡ (slice_index_or (view (slice_index_or us b e)).core.inlets (place a k) y).received

  -- and of each to each other
  abbrev pub AreEmptied : List U → Type 0
  AreEmptied us = (a b : ℕ) → a < length us → b < length us → IsEmptied us a b

  -- nowhere can a lock word be granted
  abbrev pub NoneGrants : List U → Type 0
  NoneGrants us = (c : ℕ) (d : U) → c < length us → NoneToGrant (view (slice_index_or us c d)).core

  -- so many turns are reserved everywhere
  abbrev pub HaveReserved : ℕ → List U → Type 0
  HaveReserved n us = (c : ℕ) (d : U) → c < length us → n ≤ (view (slice_index_or us c d)).core.reserved
