-- What taking memory for turns to come changes: how much there is, and nothing else.
use Rattle.std.specs.Prelude.{◌≡◌, ℕ, ◌≤◌, List, length, slice_index_or}
use Rattle.mesh_lanes.specs.View.{OutletView}
use Rattle.cluster_unit.specs.View.{CoreView}

-- each end is as it was, with memory for as many messages or for more
pub record HaveMore (old new : List OutletView) : Type 0 where
  pub count : length new ≡ length old
  pub others : (j : ℕ) (x : OutletView) → slice_index_or new j x ≡ record (slice_index_or old j x) { spare = (slice_index_or new j x).spare }
  pub spare : (j : ℕ) (x : OutletView) → (slice_index_or old j x).spare ≤ (slice_index_or new j x).spare

-- memory was taken, or none was needed, or a part was taken
pub record Reserved (a b : CoreView) : Type 0 where
  pub config : b.config ≡ a.config
  pub cluster : b.cluster ≡ a.cluster
  pub log : b.log ≡ a.log
  pub inlets : b.inlets ≡ a.inlets
  pub outlets : HaveMore a.outlets b.outlets
  pub more : a.reserved ≤ b.reserved
  pub weight : b.weight ≡ a.weight
