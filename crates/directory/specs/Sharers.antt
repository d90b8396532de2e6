-- The sharers of a line as bits: bit c for cluster c.
use Rattle.std.specs.Prelude.{ℕ, ◌^◌, ◌==◌, ◌&&◌, not, Bool, List, filter, bit_or}
use Rattle.std.specs.Int.{bit_at}
use Rattle.std.specs.List.{range_with_len}

-- whether a cluster is one of the sharers
abbrev pub is_sharer : ℕ → ℕ → Bool
is_sharer sharers cluster = bit_at sharers cluster == 1

-- one cluster
abbrev pub only : ℕ → ℕ
only cluster = 2 ^ cluster

-- sharers, and one cluster besides
abbrev pub with_sharer : ℕ → ℕ → ℕ
with_sharer sharers cluster = bit_or sharers (2 ^ cluster)

-- the sharers among so many clusters but one, in ascending order
unfoldable pub sharers_but : ℕ → ℕ → ℕ → List ℕ
sharers_but clusters sharers one =
    filter (λ cluster. not (cluster == one) && is_sharer sharers cluster) (range_with_len 0 clusters)
