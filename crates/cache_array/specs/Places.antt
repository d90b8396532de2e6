-- The places of an array, one at each index, each of which is empty or has a line and its copy.
use Rattle.std.specs.Prelude.{◌≡◌, ◌<◌, ℕ, ◌%◌, ◌==◌, List, [], ◌∷◌, Option, Some, None, length, slice_index_or, if◌then◌else◌}
use Rattle.std.specs.Ordering.{nat_cmp}
use Rattle.std.specs.FinMap.{FinMap, empty, insert}
use Rattle.dash_base.specs.declared.line.Line.{Line}
use Rattle.dash_base.specs.declared.id.LineId.{LineId}
use Rattle.cache_array.specs.declared.places.Place.{Place}

-- the place at the index of a line
abbrev pub place_at : {A : Type 0} → List (Option A) → ℕ → Option A
place_at places line = slice_index_or places (line % length places) None

-- the number of the line of a place
abbrev pub number : Place → ℕ
number p = p.line.0

-- the copy in a place, if that is a place of this line
abbrev pub copy_in : ℕ → Option Place → Option Line
copy_in line None = None
copy_in line (Some p) = if p.line.0 == line then Some p.copy else None

-- the line of a place, if that is a place of another line than this one
abbrev pub other_in : ℕ → Option Place → Option LineId
other_in line None = None
other_in line (Some p) = if p.line.0 == line then None else Some p.line

-- the copy of each line that has a place
unfoldable pub map_of : List (Option Place) → FinMap nat_cmp Line
map_of [] = empty
map_of (None ∷ places) = map_of places
map_of (Some p ∷ places) = insert (map_of places) p.line.0 p.copy

-- there are places, and each that is not empty stands at the index of its line
pub record AreDirect {A : Type 0} (number : A → ℕ) (places : List (Option A)) : Type 0 where
  pub some : 0 < length places
  pub own : (i : ℕ) (p : A) → slice_index_or places i None ≡ Some p → number p % length places ≡ i
