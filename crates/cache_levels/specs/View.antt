-- Two levels as contracts see them: L2 as an array, and the set of the lines that L1 has.
use Rattle.std.specs.Prelude.{◌≡◌, ℕ, ◌%◌, ◌==◌, Bool, true, ◌&&◌, not, Option, option_map, if◌then◌else◌, refl}
use Rattle.std.specs.Ordering.{nat_cmp}
use Rattle.std.specs.FinSet.{FinSet, contains, insert, remove, retain, empty, code}
use Rattle.std.specs.Coded.{Coded, code_by, coded×, coded_ℕ}
use Rattle.dash_base.specs.declared.line.Line.{Line}
use Rattle.cache_array.specs.View.{ArrayView, array_code, copy_at, has_line, empty_array, with_copy, without_line}

-- how many indexes L1 has, the lines that are in it, and L2
pub record LevelsView : Type 0 where
  pub l1_lines : ℕ
  pub l1 : FinSet nat_cmp
  pub l2 : ArrayView

abbrev pub levels_code : Coded LevelsView
levels_code =
    code_by (ℕ × (FinSet nat_cmp × ArrayView)) (coded× coded_ℕ (coded× (code coded_ℕ) array_code)) (λ v. (v.l1_lines, (v.l1, v.l2))) (λ p. record { l1_lines = p.0; l1 = p.1.0; l2 = p.1.1 }) (λ _. refl)

-- whether L1 has a line
unfoldable pub in_l1 : LevelsView → ℕ → Bool
in_l1 v line = contains v.l1 line

-- L1 has no line that L2 lacks
pub record IsPartOfL2 (v : LevelsView) : Type 0 where
  pub within : (line : ℕ) → in_l1 v line ≡ true → has_line v.l2 line ≡ true

-- no line in either level
unfoldable pub empty_levels : ℕ → ℕ → LevelsView
empty_levels l1 l2 = record { l1_lines = l1; l1 = empty; l2 = empty_array l2 }

-- the same with this copy of a line in L2
unfoldable pub with_level_copy : LevelsView → ℕ → Line → LevelsView
with_level_copy v line copy = record v { l2 = with_copy v.l2 line copy }

-- the same without a line in either level
unfoldable pub without_level_line : LevelsView → ℕ → LevelsView
without_level_line v line = record v { l1 = remove v.l1 line; l2 = without_line v.l2 line }

-- the same with a line in L1, in place of the line at its index there
unfoldable pub entered : LevelsView → ℕ → LevelsView
entered v line =
    record v { l1 = insert (retain v.l1 (λ other. not (other % v.l1_lines == line % v.l1_lines))) line }

-- the level that a line of L2 is read at
abbrev pub level_of : LevelsView → ℕ → ℕ
level_of v line = if in_l1 v line then 1 else 2

-- what a read of a line answers: its copy and the level
unfoldable pub read_of : LevelsView → ℕ → Option (Line × ℕ)
read_of v line = option_map (λ copy. (copy, level_of v line)) (copy_at v.l2 line)

-- the levels after a read of a line: read at level 2, it enters L1
unfoldable pub after_read : LevelsView → ℕ → LevelsView
after_read v line = if has_line v.l2 line && not (in_l1 v line) then entered v line else v
