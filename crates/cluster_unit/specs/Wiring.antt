-- The units of a machine, and the lanes between them. All is said of lists of any type, by the core that is seen of an element.
use Rattle.std.specs.Prelude.{◌≡◌, ℕ, ◌<◌, List, [], length, slice_index_or}
use Rattle.dash_msg.specs.declared.classes.Class.{Class}
use Rattle.dash_model.specs.Config.{Config}
use Rattle.cluster_unit.specs.View.{CoreView}
use Rattle.cluster_unit.specs.Meeting.{AreJoined}

module _ {U : Type 0} (core : U → CoreView) where
  -- one unit for each cluster of the machine, in the order of the clusters
  pub record AreOf (w : Config) (us : List U) : Type 0 where
    pub count : length us ≡ w.top.clusters
    pub config : (c : ℕ) (d : U) → c < length us → (core (slice_index_or us c d)).config ≡ w
    pub cluster : (c : ℕ) (d : U) → c < length us → (core (slice_index_or us c d)).cluster ≡ c

  -- from each unit to each other, and to itself, there is one lane of each class: its two ends are theirs
  abbrev pub AreWired : List U → Type 0
  AreWired us = (a b : ℕ) (k : Class) (d e : U) → a < length us → b < length us → AreJoined k (core (slice_index_or us a d)) (core (slice_index_or us b e))

  -- nothing happened yet
  abbrev pub AreUnused : List U → Type 0
  AreUnused us = (c : ℕ) (d : U) → c < length us → (core (slice_index_or us c d)).log ≡ []
