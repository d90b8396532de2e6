-- How a home keeps its lines: by their numbers divided by the number of clusters.
use Rattle.std.specs.Prelude.{ℕ, ◌+◌, ◌*◌, ◌<◌, ◌≤◌, List, [], ◌∷◌, length}
use Rattle.std.specs.Ordering.{nat_cmp}
use Rattle.std.specs.FinMap.{FinMap, empty, insert}
use Rattle.directory.specs.declared.home_line.HomeLine.{HomeLine}

-- a list of lines, the first of which has this number, as a map by their numbers, which rise by a step
unfoldable pub map_of : ℕ → ℕ → List HomeLine → FinMap nat_cmp HomeLine
map_of step first [] = empty
map_of step first (k ∷ ks) = insert (map_of step (first + step) ks) first k

-- the list has each line of the home
pub record AreKept (cluster clusters lines : ℕ) (kept : List HomeLine) : Type 0 where
  pub cluster_in_range : cluster < clusters
  pub clusters_in_range : clusters ≤ 16
  pub lines_in_range : lines ≤ 1048576
  pub there : (place : ℕ) → place * clusters + cluster < lines → place < length kept
  pub within : (place : ℕ) → place < length kept → place * clusters + cluster < lines
