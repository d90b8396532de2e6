-- The text of a summary of the workload.
use Rattle.std.specs.Prelude.{ℕ, zero, suc, ◌*◌, ◌<◌, ◌^◌, List, [], ◌∷◌, ◌++◌, codes, decimal, length, slice_index}
use Rattle.workload_gen.specs.Workload.{harts, counters, total}

-- a numeric value for each counter of the first n
abbrev pub listed : (ℕ → ℕ) → ℕ → List ℕ
listed value zero = []
listed value (suc n) = listed value n ++ value n ∷ []

-- the total of each counter
unfoldable pub totals : ℕ → List ℕ
totals seed = listed (total seed) counters

-- a total fits a word
abbrev pub TotalsFit : Type 0
TotalsFit = (seed k : ℕ) → total seed k < 2 ^ 32

-- the instructions that a hart retires: 16 before its turns, 16 in each of them, and 3 after
abbrev pub retired_each : ℕ
retired_each = 7507

-- and all harts
abbrev pub retired_in_all : ℕ
retired_in_all = harts * retired_each

abbrev pub newline : List ℕ
newline = 10 ∷ []

-- the seed, how many harts there are, and how many instructions they retired
unfoldable pub seed_line : ℕ → ℕ → ℕ → List ℕ
seed_line seed hart_count retired =
    codes "seed " ++ decimal seed ++ codes " harts " ++ decimal hart_count ++ codes " retired " ++ decimal retired ++ newline

unfoldable pub counter_line : ℕ → ℕ → List ℕ
counter_line k value = codes "counter " ++ decimal k ++ codes " " ++ decimal value ++ newline

-- the lines of the first n counters, by the value that each has
abbrev pub counter_lines : (ℕ → ℕ) → ℕ → List ℕ
counter_lines value zero = []
counter_lines value (suc n) = counter_lines value n ++ counter_line n (value n)

-- the lines of a run, or of what a run is to come to, with the counters' values in a list
unfoldable pub summary_text : ℕ → ℕ → ℕ → List ℕ → List ℕ
summary_text seed hart_count retired values =
    seed_line seed hart_count retired ++ counter_lines (slice_index values) (length values)
