-- An array as contracts see it: a finite map from lines to copies, with at most one line per index.
use Rattle.std.specs.Prelude.{◌≡◌, ◌≢◌, ℕ, ◌%◌, Bool, true, List, Option, is_some, refl}
use Rattle.std.specs.Ordering.{nat_cmp}
use Rattle.std.specs.FinMap.{FinMap, get, insert, remove, empty, code}
use Rattle.std.specs.Coded.{Coded, code_by, coded×, coded_ℕ, coded_list}
use Rattle.dash_base.specs.declared.line.Line.{Line}

-- how many indexes there are, and the copy of each line that is there
pub record ArrayView : Type 0 where
  pub lines : ℕ
  pub copies : FinMap nat_cmp Line

-- a copy is stored as its words and its version
abbrev pub line_code : Coded Line
line_code =
    code_by (List ℕ × ℕ) (coded× (coded_list coded_ℕ) coded_ℕ) (λ c. (c.words, c.version)) (λ p. record { words = p.0; version = p.1 }) (λ _. refl)

abbrev pub array_code : Coded ArrayView
array_code =
    code_by (ℕ × FinMap nat_cmp Line) (coded× coded_ℕ (code coded_ℕ line_code)) (λ a. (a.lines, a.copies)) (λ p. record { lines = p.0; copies = p.1 }) (λ _. refl)

-- the copy of a line, if it is there
unfoldable pub copy_at : ArrayView → ℕ → Option Line
copy_at a line = get a.copies line

-- whether a line is there
abbrev pub has_line : ArrayView → ℕ → Bool
has_line a line = is_some (copy_at a line)

-- no line
unfoldable pub empty_array : ℕ → ArrayView
empty_array lines = record { lines = lines; copies = empty }

-- the same with this copy of a line
unfoldable pub with_copy : ArrayView → ℕ → Line → ArrayView
with_copy a line copy = record a { copies = insert a.copies line copy }

-- the same without a line
unfoldable pub without_line : ArrayView → ℕ → ArrayView
without_line a line = record a { copies = remove a.copies line }

-- no other line stands at this line's index
pub record HasRoom (a : ArrayView) (line : ℕ) : Type 0 where
  pub alone : (other : ℕ) → has_line a other ≡ true → other % a.lines ≡ line % a.lines → other ≡ line

-- another line stands at this line's index
pub record IsOther (a : ArrayView) (line other : ℕ) : Type 0 where
  pub held : has_line a other ≡ true
  pub apart : other ≢ line
  pub index : other % a.lines ≡ line % a.lines

-- at most one line stands at each index
pub record IsOnePerIndex (a : ArrayView) : Type 0 where
  pub one : (line : ℕ) → has_line a line ≡ true → HasRoom a line
