-- How a text is cut: at a mark, and at the blanks round it.
use Rattle.std.specs.Prelude.{ℕ, ◌-◌, ◌+◌, ◌==◌, ◌||◌, not, Bool, List, Option, Some, None, take, drop, length, reverse, nat_lt, if◌then◌else◌}
use Rattle.std.specs.List.{position_or_len}

-- a space or a tab
abbrev pub is_blank : ℕ → Bool
is_blank c = c == 32 || c == 9

abbrev pub is_solid : ℕ → Bool
is_solid c = not (is_blank c)

-- this byte
abbrev pub is_mark : ℕ → ℕ → Bool
is_mark mark c = c == mark

-- what stands before the first such byte, or all where there is none
unfoldable pub before : (ℕ → Bool) → List ℕ → List ℕ
before p text = take (position_or_len p text) text

-- what stands behind the first such byte, where there is one
unfoldable pub behind : (ℕ → Bool) → List ℕ → Option (List ℕ)
behind p text = if nat_lt (position_or_len p text) (length text) then Some (drop (position_or_len p text + 1) text) else None

-- what is left from the first such byte on
unfoldable pub from_first : (ℕ → Bool) → List ℕ → List ℕ
from_first p text = drop (position_or_len p text) text

-- without the blanks at its end
unfoldable pub without_end : List ℕ → List ℕ
without_end text = take (length text - position_or_len is_solid (reverse text)) text

-- without the blanks at both ends
abbrev pub trimmed : List ℕ → List ℕ
trimmed text = without_end (from_first is_solid text)
