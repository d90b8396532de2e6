-- What two units know of a lane between them, where its two ends meet.
use Rattle.std.specs.Prelude.{◌≡◌, ℕ, ◌+◌, ◌<◌, ◌≤◌, List, ◌++◌, length, slice_index_or}
use mathlib.Core.List.{IsPrefix}
use Rattle.dash_msg.specs.declared.classes.Class.{Class}
use Rattle.mesh_lanes.specs.View.{OutletView, InletView}
use Rattle.cluster_unit.specs.View.{CoreView}
use Rattle.cluster_unit.specs.Ends.{place}

-- ends that send were flushed: what was sent stays, and no memory is lost
pub record Flushed (old new : List OutletView) : Type 0 where
  pub count : length new ≡ length old
  pub lane : (j : ℕ) (x : OutletView) → (slice_index_or new j x).lane ≡ (slice_index_or old j x).lane
  pub sent : (j : ℕ) (x : OutletView) → (slice_index_or new j x).sent ≡ (slice_index_or old j x).sent
  pub spare : (j : ℕ) (x : OutletView) → (slice_index_or old j x).spare ≤ (slice_index_or new j x).spare

-- ends that receive learned of more: what was received stays, and what was known still is
pub record Learned (old new : List InletView) : Type 0 where
  pub count : length new ≡ length old
  pub lane : (j : ℕ) (x : InletView) → (slice_index_or new j x).lane ≡ (slice_index_or old j x).lane
  pub received : (j : ℕ) (x : InletView) → (slice_index_or new j x).received ≡ (slice_index_or old j x).received
  pub known : (j : ℕ) (x : InletView) → IsPrefix (slice_index_or old j x).known (slice_index_or new j x).known

-- the two ends of a lane, which has this many messages: what was received, what is in the ring and what waits is what was sent; and where it has any, the next taking gives one
pub record EndsMet (count : ℕ) (out : OutletView) (inlet : InletView) : Type 0 where
  pub met : (inlet.received ++ inlet.known) ++ out.spool ≡ out.sent
  pub count_is : count ≡ length inlet.known + length out.spool
  pub shown : 0 < count → 0 < length inlet.known

-- the lane of a class from core a to core b met, with this many messages
pub record Met (k : Class) (count : ℕ) (a b : CoreView) : Type 0 where
  pub ends : (x : OutletView) (y : InletView) → EndsMet count (slice_index_or a.outlets (place b.cluster k) x) (slice_index_or b.inlets (place a.cluster k) y)

-- the two ends are of one lane
abbrev pub AreJoined : Class → CoreView → CoreView → Type 0
AreJoined k a b = (x : OutletView) (y : InletView) → (slice_index_or a.outlets (place b.cluster k) x).lane ≡ (slice_index_or b.inlets (place a.cluster k) y).lane
