-- The units of a machine at the end of a run. All is said of lists of any type, by the core that is seen of an element.
use Rattle.std.specs.Prelude.{◌≡◌, ℕ, ◌<◌, List, length, slice_index_or}
use Rattle.dash_base.specs.declared.topology.Topology.{Topology}
use Rattle.dash_model.specs.Config.{Config}
use Rattle.dash_model.specs.Machine.{Machine}
use Rattle.cluster_unit.specs.View.{CoreView}
use Rattle.cluster_unit.specs.Core.{IsAt}
use Rattle.cluster_unit.specs.Wiring.{AreOf}

module _ {U : Type 0} (core : U → CoreView) where
  -- one unit for each cluster of a topology
  pub record AreOn (t : Topology) (us : List U) : Type 0 where
    pub count : length us ≡ t.clusters
    pub top : (c : ℕ) (d : U) → c < length us → (core (slice_index_or us c d)).config.top ≡ t

  -- the units of a machine in this state
  pub record AreAt (w : Config) (m : Machine) (us : List U) : Type 0 where
    pub units : AreOf core w us
    pub parts : (c : ℕ) (d : U) → c < w.top.clusters → IsAt (core (slice_index_or us c d)) (m.parts c)
