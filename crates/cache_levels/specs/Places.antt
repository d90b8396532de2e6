-- The places of a set of lines, one at each index, each of which is empty or has a line.
use Rattle.std.specs.Prelude.{ℕ, ◌==◌, Bool, false, List, [], ◌∷◌, Option, Some, None}
use Rattle.std.specs.Ordering.{nat_cmp}
use Rattle.std.specs.FinSet.{FinSet, empty, insert}
use Rattle.dash_base.specs.declared.id.LineId.{LineId}

-- the number of a line
abbrev pub number : LineId → ℕ
number l = l.0

-- whether a place has this line
abbrev pub is_place_of : ℕ → Option LineId → Bool
is_place_of line None = false
is_place_of line (Some l) = l.0 == line

-- the lines that have a place
unfoldable pub lines_of : List (Option LineId) → FinSet nat_cmp
lines_of [] = empty
lines_of (None ∷ places) = lines_of places
lines_of (Some l ∷ places) = insert (lines_of places) l.0
