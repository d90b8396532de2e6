-- L1 as a part of L2.
use Rattle.std.specs.Prelude.{◌≡◌, ℕ, true}
use Rattle.cache_array.specs.View.{ArrayView, has_line, IsOnePerIndex}
use Rattle.cache_levels.specs.LineSet.{LineSetView, has}

-- each line of L1 is in L2, which has at most one line per index
pub record IsWithin (l1 : LineSetView) (l2 : ArrayView) : Type 0 where
  pub part : (line : ℕ) → has l1 line ≡ true → has_line l2 line ≡ true
  pub l2_one : IsOnePerIndex l2
