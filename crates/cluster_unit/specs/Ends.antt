-- The ends of a cluster's lanes, and what went through them. They stand by the cluster at the other end, the request lane before the reply lane.
use Rattle.std.specs.Prelude.{◌≡◌, ℕ, ◌+◌, ◌*◌, ◌<◌, ◌≤◌, ◌==◌, ◌&&◌, nat_lt, Bool, false, cond, Option, None, Some, List, [], ◌∷◌, ◌++◌, length, map, slice_index_or}
use mathlib.Core.List.{IsPrefix}
use Rattle.dash_msg.specs.Classes.{class_of}
use Rattle.dash_msg.specs.declared.classes.Class.{Class}
use Rattle.dash_msg.specs.declared.classes.Class.TheVariants.{Request, Reply}
use Rattle.dash_msg.specs.declared.parcel.Parcel.{Parcel}
use Rattle.dash_msg.specs.declared.parcel.Sent.{Sent}
use Rattle.mesh_lanes.specs.View.{OutletView, InletView}
use Rattle.dash_model.specs.Net.{Packet, same_class, lane}

-- whether an end knows of a message that is taken next
abbrev pub knows : Option InletView → Bool
knows None = false
knows (Some i) = nat_lt 0 (length i.known)

-- the place among the ends of the lane to or from a cluster, of a class
abbrev pub class_place : Class → ℕ
class_place Request = 0
class_place Reply = 1

abbrev pub place : ℕ → Class → ℕ
place d k = 2 * d + class_place k

-- a packet as the parcel that the lane has of it
abbrev pub parcel_of : Packet → Parcel
parcel_of p = record { msg = p.msg; stamp = p.stamp }

-- what cluster a sent to cluster b of a class, as parcels
abbrev pub parcels : ℕ → ℕ → Class → List Packet → List Parcel
parcels a b k ps = map parcel_of (lane a b k ps)

-- messages of one class
abbrev pub AllOfClass : Class → List Parcel → Type 0
AllOfClass k [] = Unit {0}
AllOfClass k (q ∷ qs) = (class_of q.msg ≡ k) × AllOfClass k qs

-- of n clusters, each lane out of cluster c carries what c sent to the cluster at its other end
abbrev pub Carry : ℕ → ℕ → List Packet → List OutletView → Type 0
Carry n c sent outlets = (d : ℕ) (k : Class) (x : OutletView) → d < n → (slice_index_or outlets (place d k) x).sent ≡ parcels c d k sent

-- each lane into a cluster of n brought messages of its own class alone
abbrev pub AreOfClass : ℕ → List InletView → Type 0
AreOfClass n inlets = (f : ℕ) (k : Class) (x : InletView) → f < n → AllOfClass k (slice_index_or inlets (place f k) x).received

-- each lane into cluster c brought what was taken from the cluster at its other end
abbrev pub Brought : ℕ → ℕ → List Packet → List InletView → Type 0
Brought n c received inlets = (f : ℕ) (k : Class) (x : InletView) → f < n → (slice_index_or inlets (place f k) x).received ≡ parcels f c k received

-- nothing was taken from what is no cluster of n
abbrev pub NoneBeyond : ℕ → List Packet → Type 0
NoneBeyond n received = (f b : ℕ) (k : Class) → n ≤ f → lane f b k received ≡ []

-- what is sent to cluster d of a class, with a stamp, as parcels
abbrev pub goes_to : ℕ → Class → Sent → Bool
goes_to d k s = (s.to.0 == d) && same_class (class_of s.msg) k

unfoldable pub parcels_to : ℕ → ℕ → Class → List Sent → List Parcel
parcels_to stamp d k [] = []
parcels_to stamp d k (s ∷ ss) = cond (goes_to d k s) (record { msg = s.msg; stamp = stamp } ∷ parcels_to stamp d k ss) (parcels_to stamp d k ss)

-- these were sent by the lanes to n clusters, in order, each by the lane to its cluster of its class, and took at most so much of the memory reserved
pub record Sends (n stamp : ℕ) (ss : List Sent) (old new : List OutletView) : Type 0 where
  pub count : length new ≡ length old
  pub lanes : (j : ℕ) (x : OutletView) → (slice_index_or new j x).lane ≡ (slice_index_or old j x).lane
  pub sent : (d : ℕ) (k : Class) (x : OutletView) → d < n → (slice_index_or new (place d k) x).sent ≡ (slice_index_or old (place d k) x).sent ++ parcels_to stamp d k ss
  pub spare : (j : ℕ) (x : OutletView) → (slice_index_or old j x).spare ≤ (slice_index_or new j x).spare + length ss

-- each end has memory for so many parcels
abbrev pub HaveSpare : ℕ → List OutletView → Type 0
HaveSpare m outlets = (j : ℕ) (x : OutletView) → j < length outlets → m ≤ (slice_index_or outlets j x).spare

-- inlets were looked at: nothing was taken, and what was known still is
pub record Looked (old new : List InletView) : Type 0 where
  pub count : length new ≡ length old
  pub lane : (j : ℕ) (x : InletView) → (slice_index_or new j x).lane ≡ (slice_index_or old j x).lane
  pub received : (j : ℕ) (x : InletView) → (slice_index_or new j x).received ≡ (slice_index_or old j x).received
  pub known : (j : ℕ) (x : InletView) → IsPrefix (slice_index_or old j x).known (slice_index_or new j x).known
