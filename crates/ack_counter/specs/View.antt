-- A table of acknowledgements as contracts see it: a finite map from lines to what is counted of them.
use Rattle.std.specs.Prelude.{ℕ, zero, suc, ◌+◌, ◌==◌, Bool, false, if◌then◌else◌, Option, Some, None, option_map, is_some, nat_lt, count_by, refl}
use Rattle.std.specs.Ordering.{nat_cmp}
use Rattle.std.specs.FinMap as fin
use Rattle.std.specs.FinMap.{FinMap}
use Rattle.std.specs.FinSet as set
use Rattle.std.specs.FinSet.{FinSet}
use Rattle.std.specs.Coded.{Coded, code_by, coded×, coded_ℕ, coded_option}

-- how many acknowledgements of a line are expected, if that is known; how many came; and the harts of the cluster to which they are owed
pub record Counted : Type 0 where
  pub expected : Option ℕ
  pub got : ℕ
  pub owed : FinSet nat_cmp

-- how many entries there may be, and the entry of each line that has one
pub record TableView : Type 0 where
  pub capacity : ℕ
  pub entries : FinMap nat_cmp Counted

abbrev pub counted_code : Coded Counted
counted_code =
    code_by (Option ℕ × (ℕ × FinSet nat_cmp)) (coded× (coded_option coded_ℕ) (coded× coded_ℕ (set.code coded_ℕ))) (λ e. (e.expected, (e.got, e.owed))) (λ p. record { expected = p.0; got = p.1.0; owed = p.1.1 }) (λ _. refl)

abbrev pub table_code : Coded TableView
table_code =
    code_by (ℕ × FinMap nat_cmp Counted) (coded× coded_ℕ (fin.code coded_ℕ counted_code)) (λ t. (t.capacity, t.entries)) (λ p. record { capacity = p.0; entries = p.1 }) (λ _. refl)

-- the entry of a line, if it has one
unfoldable pub entry_at : TableView → ℕ → Option Counted
entry_at t line = fin.get t.entries line

-- whether a line has an entry
abbrev pub is_pending : TableView → ℕ → Bool
is_pending t line = is_some (entry_at t line)

-- how many acknowledgements of a line came, if it has an entry
abbrev pub got_at : TableView → ℕ → Option ℕ
got_at t line = option_map (λ e. e.got) (entry_at t line)

-- how many lines have an entry
unfoldable pub count : TableView → ℕ
count t = fin.len t.entries

-- whether there may be one more
abbrev pub has_room : TableView → Bool
has_room t = nat_lt (count t) t.capacity

-- whether no line has an entry
abbrev pub is_none_pending : TableView → Bool
is_none_pending t = count t == 0

-- whether an entry is owed to a hart
unfoldable pub owes : Counted → ℕ → Bool
owes e hart = set.contains e.owed hart

-- how many entries are owed to a hart
unfoldable pub owed_to : TableView → ℕ → ℕ
owed_to t hart = count_by (λ e. owes e hart) (fin.values t.entries)

-- the same of an entry that may be there
abbrev pub owes_if : Option Counted → ℕ → Bool
owes_if None hart = false
owes_if (Some e) hart = owes e hart

-- whether acknowledgements of a line are owed to a hart
abbrev pub owes_at : TableView → ℕ → ℕ → Bool
owes_at t line hart = owes_if (entry_at t line) hart

-- 1 where a line has an entry
abbrev pub one_pending : TableView → ℕ → ℕ
one_pending t line = if is_pending t line then 1 else 0

-- how many lines below a number have an entry
unfoldable pub pending_below : TableView → ℕ → ℕ
pending_below t zero = 0
pending_below t (suc n) = one_pending t n + pending_below t n
