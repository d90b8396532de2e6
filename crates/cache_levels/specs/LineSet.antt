-- A direct-mapped set of lines as contracts see it: a finite set of lines, with at most one per index.
use Rattle.std.specs.Prelude.{ℕ, ◌%◌, ◌==◌, Bool, not, refl}
use Rattle.std.specs.Ordering.{nat_cmp}
use Rattle.std.specs.FinSet.{FinSet, contains, insert, remove, retain, empty, code}
use Rattle.std.specs.Coded.{Coded, code_by, coded×, coded_ℕ}

-- how many indexes there are, and the lines that are there
pub record LineSetView : Type 0 where
  pub lines : ℕ
  pub held : FinSet nat_cmp

-- a set is stored as both
abbrev pub set_code : Coded LineSetView
set_code =
    code_by (ℕ × FinSet nat_cmp) (coded× coded_ℕ (code coded_ℕ)) (λ s. (s.lines, s.held)) (λ p. record { lines = p.0; held = p.1 }) (λ _. refl)

-- whether a line is there
unfoldable pub has : LineSetView → ℕ → Bool
has s line = contains s.held line

-- no line
unfoldable pub empty_set : ℕ → LineSetView
empty_set lines = record { lines = lines; held = empty }

-- the same with a line, in place of the line at its index
unfoldable pub with_line : LineSetView → ℕ → LineSetView
with_line s line =
    record s { held = insert (retain s.held (λ other. not (other % s.lines == line % s.lines))) line }

-- the same without a line
unfoldable pub without : LineSetView → ℕ → LineSetView
without s line = record s { held = remove s.held line }
