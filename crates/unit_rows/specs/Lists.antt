-- Sets of bits as rising lists of numbers.
use Rattle.std.specs.Prelude.{ℕ, zero, suc, ◌+◌, Bool, cond, List, [], ◌∷◌}

-- the numbers that pass among so many numbers from this one on, in rising order
unfoldable pub picked : (ℕ → Bool) → ℕ → ℕ → List ℕ
picked p from zero = []
picked p from (suc n) = cond (p from) (from ∷ picked p (from + 1) n) (picked p (from + 1) n)
