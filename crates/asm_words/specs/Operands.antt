-- How the operands of a line are cut from one another.
use Rattle.std.specs.Prelude.{ℕ, ◌-◌, ◌==◌, Bool, List, [], ◌∷◌, length, take, slice_index, Option, Some, None, if◌then◌else◌}
use Rattle.asm_words.specs.Cuts.{before, behind, from_first, is_blank, is_mark, trimmed}
use Rattle.asm_words.specs.declared.operands.Operands.{Operands}
use Rattle.asm_words.specs.declared.operands.Operands.TheVariants.{Nothing, One, Two, Three, Many}
use Rattle.asm_words.specs.declared.operands.Place.{Place}

abbrev pub comma : ℕ → Bool
comma c = is_mark 44 c

-- three words, and what stands behind a comma after the third
abbrev pub third : List ℕ → List ℕ → List ℕ → Option (List ℕ) → Operands
third a b c None = Three (trimmed a) (trimmed b) (trimmed c)
third a b c (Some rest) = Many

-- two words, and what stands behind a comma after the second
abbrev pub second : List ℕ → List ℕ → Option (List ℕ) → Operands
second a b None = Two (trimmed a) (trimmed b)
second a b (Some rest) = third a b (before comma rest) (behind comma rest)

-- a word, and what stands behind a comma after it
abbrev pub first : List ℕ → Option (List ℕ) → Operands
first a None = One (trimmed a)
first a (Some rest) = second a (before comma rest) (behind comma rest)

-- the operands of a text without blanks at its ends: what stands between its commas
unfoldable pub operands_of : List ℕ → Operands
operands_of [] = Nothing
operands_of text = first (before comma text) (behind comma text)

-- what a line says: it is cut at the comment, and has no blanks at its ends
unfoldable pub statement_of : List ℕ → List ℕ
statement_of line = trimmed (before (is_mark 35) line)

-- its first word
unfoldable pub keyword_of : List ℕ → List ℕ
keyword_of statement = before is_blank statement

-- the words behind
unfoldable pub listed_in : List ℕ → Operands
listed_in statement = operands_of (trimmed (from_first is_blank statement))

-- `OFFSET(BASE)`, from what stands behind the parenthesis that opens
abbrev pub closed : List ℕ → Option (List ℕ) → Option Place
closed offset None = None
closed offset (Some rest) =
    if slice_index rest (length rest - 1) == 41 then Some (record { offset = offset; base = take (length rest - 1) rest })
    else None

-- the words of `OFFSET(BASE)`
unfoldable pub place_of : List ℕ → Option Place
place_of word = closed (before (is_mark 40) word) (behind (is_mark 40) word)
