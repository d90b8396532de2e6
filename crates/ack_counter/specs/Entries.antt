-- The entries of a table, each of which has a line.
use Rattle.std.specs.Prelude.{◌≡◌, ◌≤◌, ℕ, ◌==◌, Bool, true, false, not, ◌&&◌, List, [], ◌∷◌, length, map, find, filter, None, is_none, slice_index_or, slice_set, if◌then◌else◌}
use Rattle.std.specs.Ordering.{nat_cmp}
use Rattle.std.specs.FinMap.{FinMap, from_entries}
use Rattle.std.specs.FinSet.{FinSet, from_list, retain}
use Rattle.dash_base.specs.declared.id.LineId.{LineId}
use Rattle.ack_counter.specs.declared.entries.Entry.{Entry}
use Rattle.ack_counter.specs.View.{Counted}
use Rattle.ack_counter.specs.Steps.{is_all}

-- whether an entry is that of a line
abbrev pub is_of : ℕ → Entry → Bool
is_of line e = e.line.0 == line

-- whether it is owed to a hart
abbrev pub is_owed : ℕ → Entry → Bool
is_owed hart e = slice_index_or e.owed hart false

-- whether all came that is expected
abbrev pub is_complete : Entry → Bool
is_complete e = is_all e.expected e.got

-- an entry for which nothing came yet
abbrev pub fresh_entry : LineId → Entry
fresh_entry line = record { line = line; expected = None; got = 0; owed = false ∷ false ∷ false ∷ false ∷ [] }

-- the same entry, owed to a hart too
abbrev pub entry_owing : ℕ → Entry → Entry
entry_owing hart e = record e { owed = slice_set e.owed hart true }

-- the entries of all lines but one
abbrev pub others : ℕ → List Entry → List Entry
others line es = filter (λ e. not (is_of line e)) es

-- an entry, unless it is complete
abbrev pub kept_entry : Entry → List Entry
kept_entry e = if is_complete e then [] else e ∷ []

-- the harts whose marks are set
unfoldable pub harts_of : List Bool → FinSet nat_cmp
harts_of marks = retain (from_list (0 ∷ 1 ∷ 2 ∷ 3 ∷ [])) (λ hart. slice_index_or marks hart false)

-- what an entry counts
abbrev pub counted_in : Entry → Counted
counted_in e = record { expected = e.expected; got = e.got; owed = harts_of e.owed }

abbrev pub pair_of : Entry → ℕ × Counted
pair_of e = (e.line.0, counted_in e)

-- the map of all lines that have entries
unfoldable pub map_of : List Entry → FinMap nat_cmp Counted
map_of es = from_entries (map pair_of es)

-- no line has two entries
abbrev pub are_apart : List Entry → Bool
are_apart [] = true
are_apart (e ∷ es) = is_none (find (is_of e.line.0) es) && are_apart es

-- there are at most 16 entries, no more than there may be, and one for a line
pub record AreKept (capacity : ℕ) (es : List Entry) : Type 0 where
  pub bounded : capacity ≤ 16
  pub few : length es ≤ capacity
  pub apart : are_apart es ≡ true
