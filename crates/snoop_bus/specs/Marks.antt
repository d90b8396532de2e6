-- Marks of ownership, one at each index of L2.
use Rattle.std.specs.Prelude.{◌≡◌, ◌<◌, ◌%◌, Bool, false, List, length, slice_index_or}
use Rattle.std.specs.Ordering.{nat_cmp}
use Rattle.std.specs.FinMap.{keys}
use Rattle.std.specs.FinSet.{FinSet, from_list, retain}
use Rattle.cache_array.specs.View.{ArrayView}

-- the lines that an array has
unfoldable pub lines_in : ArrayView → FinSet nat_cmp
lines_in a = from_list (keys a.copies)

-- the lines of an array at whose index the mark is set
unfoldable pub owned_in : List Bool → ArrayView → FinSet nat_cmp
owned_in marks a = retain (lines_in a) (λ line. slice_index_or marks (line % a.lines) false)

-- there is a mark at each index
pub record AreMarks (marks : List Bool) (a : ArrayView) : Type 0 where
  pub some : 0 < length marks
  pub each : length marks ≡ a.lines
