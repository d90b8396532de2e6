-- What the loops over all harts keep.
use Rattle.std.proofs.Common.{◌≡◌, ℕ, ◌<◌, ◌≤◌, List, length, get_or}
use Rattle.snoop_bus.specs.Caches.{CachesView}

-- the first harts are changed, and the others not yet
pub record SoFar (f : ℕ → CachesView → CachesView) (old now : List CachesView) (n : ℕ) : Type 0 where
  pub as_many : length now ≡ length old
  pub done : (k : ℕ) (d : CachesView) → k < length old → k < n → get_or now k d ≡ f k (get_or old k d)
  pub rest : (k : ℕ) (d : CachesView) → k < length old → n ≤ k → get_or now k d ≡ get_or old k d
