-- What the laws of tables of acknowledgements say: each call changes the entry of one line alone, and the entries are counted.
use Rattle.std.specs.Prelude.{◌≡◌, ◌≢◌, ℕ, ◌+◌, ◌<◌, true, false, Some, None, option_and_then}
use Rattle.ack_counter.specs.View.{TableView, entry_at, is_pending, count, one_pending, pending_below, owes_at, owed_to}
use Rattle.ack_counter.specs.Steps.{empty_table, fresh, expecting, counting, also_owed, begun, cancelled, granted, acked, owing}

-- the entry of the line of a call
pub record CallsChangeTheirLine : Type 0 where
  pub empty : (capacity line : ℕ) → entry_at (empty_table capacity) line ≡ None
  pub begun : (t : TableView) (line : ℕ) → entry_at (begun t line) line ≡ Some fresh
  pub cancelled : (t : TableView) (line : ℕ) → entry_at (cancelled t line) line ≡ None
  pub granted : (t : TableView) (line number : ℕ) → entry_at (granted t line number) line ≡ option_and_then (expecting number) (entry_at t line)
  pub acked : (t : TableView) (line : ℕ) → entry_at (acked t line) line ≡ option_and_then counting (entry_at t line)
  pub owing : (t : TableView) (line hart : ℕ) → entry_at (owing t line hart) line ≡ option_and_then (λ e. Some (also_owed hart e)) (entry_at t line)

-- the entry of each other line
pub record CallsKeepOtherLines : Type 0 where
  pub begun : (t : TableView) (line q : ℕ) → q ≢ line → entry_at (begun t line) q ≡ entry_at t q
  pub cancelled : (t : TableView) (line q : ℕ) → q ≢ line → entry_at (cancelled t line) q ≡ entry_at t q
  pub granted : (t : TableView) (line number q : ℕ) → q ≢ line → entry_at (granted t line number) q ≡ entry_at t q
  pub acked : (t : TableView) (line q : ℕ) → q ≢ line → entry_at (acked t line) q ≡ entry_at t q
  pub owing : (t : TableView) (line hart q : ℕ) → q ≢ line → entry_at (owing t line hart) q ≡ entry_at t q

-- how many lines have an entry after each call: one more or fewer where the line of the call has one then and had none, or had one and has none
pub record EntriesAreCounted : Type 0 where
  pub empty : (capacity : ℕ) → count (empty_table capacity) ≡ 0
  pub begun : (t : TableView) (line : ℕ) → count (begun t line) + one_pending t line ≡ count t + 1
  pub cancelled : (t : TableView) (line : ℕ) → count (cancelled t line) + one_pending t line ≡ count t
  pub granted : (t : TableView) (line number : ℕ) → count (granted t line number) + one_pending t line ≡ count t + one_pending (granted t line number) line
  pub acked : (t : TableView) (line : ℕ) → count (acked t line) + one_pending t line ≡ count t + one_pending (acked t line) line
  pub owing : (t : TableView) (line hart : ℕ) → count (owing t line hart) ≡ count t
  pub by_line : (t : TableView) (lines : ℕ) → ((line : ℕ) → is_pending t line ≡ true → line < lines) → count t ≡ pending_below t lines

-- nothing is owed to a hart exactly where no line's entry is owed to it
pub record OwedIsByLine : Type 0 where
  pub none : (t : TableView) (hart : ℕ) → owed_to t hart ≡ 0 → (line : ℕ) → owes_at t line hart ≡ false
  pub all : (t : TableView) (hart : ℕ) → ((line : ℕ) → owes_at t line hart ≡ false) → owed_to t hart ≡ 0
