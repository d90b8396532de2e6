-- The table after each call.
use Rattle.std.specs.Prelude.{ℕ, ◌+◌, ◌==◌, Bool, false, Option, Some, None, if◌then◌else◌}
use Rattle.std.specs.FinMap as fin
use Rattle.std.specs.FinSet as set
use Rattle.ack_counter.specs.View.{Counted, TableView, entry_at}

-- nothing came yet, nothing is known of how many are expected, and nothing is owed
unfoldable pub fresh : Counted
fresh = record { expected = None; got = 0; owed = set.empty }

-- whether as many came as are expected
abbrev pub is_all : Option ℕ → ℕ → Bool
is_all None got = false
is_all (Some expected) got = expected == got

-- an entry for which all came is closed
abbrev pub unless_all : Counted → Option Counted
unless_all e = if is_all e.expected e.got then None else Some e

-- an entry that expects so many
abbrev pub expecting : ℕ → Counted → Option Counted
expecting number e = unless_all (record e { expected = Some number })

-- an entry for which one more came
abbrev pub counting : Counted → Option Counted
counting e = unless_all (record e { got = e.got + 1 })

-- an entry that is owed to a hart too
unfoldable pub also_owed : ℕ → Counted → Counted
also_owed hart e = record e { owed = set.insert e.owed hart }

-- no line has an entry
unfoldable pub empty_table : ℕ → TableView
empty_table capacity = record { capacity = capacity; entries = fin.empty }

-- the same table, where a line has this entry
unfoldable pub with_entry : TableView → ℕ → Counted → TableView
with_entry t line e = record t { entries = fin.insert t.entries line e }

-- the same table, where a line has no entry
unfoldable pub without_entry : TableView → ℕ → TableView
without_entry t line = record t { entries = fin.remove t.entries line }

-- the same table, where a line has this entry or none
abbrev pub set_entry : TableView → ℕ → Option Counted → TableView
set_entry t line None = without_entry t line
set_entry t line (Some e) = with_entry t line e

-- the same table once the entry of a line has changed, which was this one
abbrev pub changed : TableView → ℕ → (Counted → Option Counted) → Option Counted → TableView
changed t line change None = t
changed t line change (Some e) = set_entry t line (change e)

-- each call
abbrev pub begun : TableView → ℕ → TableView
begun t line = with_entry t line fresh

abbrev pub cancelled : TableView → ℕ → TableView
cancelled t line = without_entry t line

abbrev pub granted : TableView → ℕ → ℕ → TableView
granted t line number = changed t line (expecting number) (entry_at t line)

abbrev pub acked : TableView → ℕ → TableView
acked t line = changed t line counting (entry_at t line)

abbrev pub owing : TableView → ℕ → ℕ → TableView
owing t line hart = changed t line (λ e. Some (also_owed hart e)) (entry_at t line)
