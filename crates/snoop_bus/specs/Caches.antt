-- One hart's caches as contracts see them: the two levels, and the lines that the hart owns.
use Rattle.std.specs.Prelude.{ℕ, Bool, if◌then◌else◌, refl}
use Rattle.std.specs.Ordering.{nat_cmp}
use Rattle.std.specs.FinSet.{FinSet, contains, insert, remove, empty, code}
use Rattle.std.specs.Coded.{Coded, code_by, coded×, coded_ℕ}
use Rattle.dash_base.specs.declared.line.Line.{Line}
use Rattle.cache_levels.specs.View.{LevelsView, levels_code, empty_levels, with_level_copy, without_level_line, after_read}

pub record CachesView : Type 0 where
  pub levels : LevelsView
  pub owned : FinSet nat_cmp

abbrev pub caches_code : Coded CachesView
caches_code =
    code_by (LevelsView × FinSet nat_cmp) (coded× levels_code (code coded_ℕ)) (λ h. (h.levels, h.owned)) (λ p. record { levels = p.0; owned = p.1 }) (λ _. refl)

-- whether the hart owns a line
unfoldable pub owns : CachesView → ℕ → Bool
owns h line = contains h.owned line

-- no line
unfoldable pub no_caches : ℕ → ℕ → CachesView
no_caches l1 l2 = record { levels = empty_levels l1 l2; owned = empty }

-- the same with this copy of a line, which the hart owns or not
unfoldable pub caches_with : CachesView → ℕ → Line → Bool → CachesView
caches_with h line copy own =
    record { levels = with_level_copy h.levels line copy; owned = if own then insert h.owned line else remove h.owned line }

-- the same with this copy of a line
unfoldable pub caches_written : CachesView → ℕ → Line → CachesView
caches_written h line copy = record h { levels = with_level_copy h.levels line copy }

-- the same without a line
unfoldable pub caches_without : CachesView → ℕ → CachesView
caches_without h line = record { levels = without_level_line h.levels line; owned = remove h.owned line }

-- the same where the hart does not own a line
unfoldable pub caches_shared : CachesView → ℕ → CachesView
caches_shared h line = record h { owned = remove h.owned line }

-- the same after a read of a line
unfoldable pub caches_read : CachesView → ℕ → CachesView
caches_read h line = record h { levels = after_read h.levels line }
