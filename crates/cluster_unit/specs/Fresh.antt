-- Lanes through which nothing went yet.
use Rattle.std.specs.Prelude.{◌≡◌, ℕ, ◌+◌, ◌*◌, ◌<◌, List, [], ◌∷◌, ◌++◌, length, slice_index_or}
use Rattle.dash_msg.specs.declared.classes.Class.{Class}
use Rattle.mesh_lanes.specs.View.{OutletView, InletView}
use Rattle.cluster_unit.specs.Ends.{place}

-- so many ends, by which nothing was sent
pub record AreUnsent (n : ℕ) (outlets : List OutletView) : Type 0 where
  pub count : length outlets ≡ n
  pub unsent : (j : ℕ) (x : OutletView) → j < n → (slice_index_or outlets j x).sent ≡ []

-- so many ends, by which nothing was received
pub record AreUntaken (n : ℕ) (inlets : List InletView) : Type 0 where
  pub count : length inlets ≡ n
  pub untaken : (j : ℕ) (x : InletView) → j < n → (slice_index_or inlets j x).received ≡ []

-- the ends of cluster a that send to cluster b and those of cluster b that receive from cluster a are of one lane of each class
abbrev pub AreMet : ℕ → ℕ → List OutletView → List InletView → Type 0
AreMet a b outlets inlets = (k : Class) (x : OutletView) (y : InletView) → (slice_index_or outlets (place b k) x).lane ≡ (slice_index_or inlets (place a k) y).lane

-- the two ends of a new lane stand behind those that were there
pub record AddsLane (outlets more_outlets : List OutletView) (inlets more_inlets : List InletView) : Type 0 where
  pub outlet : OutletView
  pub inlet : InletView
  pub sends : more_outlets ≡ outlets ++ outlet ∷ []
  pub receives : more_inlets ≡ inlets ++ inlet ∷ []
  pub lane : outlet.lane ≡ inlet.lane
  pub unsent : outlet.sent ≡ []
  pub untaken : inlet.received ≡ []

-- the ends of cluster b that receive from the clusters below a, and then those that receive from a too
pub record AddsSource (a b : ℕ) (outlets : List OutletView) (old new : List InletView) : Type 0 where
  pub untaken : AreUntaken (2 * (a + 1)) new
  pub kept : (j : ℕ) (y : InletView) → j < 2 * a → slice_index_or new j y ≡ slice_index_or old j y
  pub met : AreMet a b outlets new

-- the ends of clusters: rows of any types, by the ends that are seen in one
module _ {O V : Type 0} (outlets : O → List OutletView) (inlets : V → List InletView) where
  -- the lanes from the first m of n clusters to each of them
  pub record AreLanes (m n : ℕ) (sending : List O) (receiving : List V) : Type 0 where
    pub senders : length sending ≡ m
    pub receivers : length receiving ≡ n
    pub unsent : (a : ℕ) (d : O) → a < m → AreUnsent (2 * n) (outlets (slice_index_or sending a d))
    pub untaken : (b : ℕ) (e : V) → b < n → AreUntaken (2 * m) (inlets (slice_index_or receiving b e))
    pub met : (a b : ℕ) (d : O) (e : V) → a < m → b < n → AreMet a b (outlets (slice_index_or sending a d)) (inlets (slice_index_or receiving b e))
