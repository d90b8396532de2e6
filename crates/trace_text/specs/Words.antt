-- A line is cut into words, each of which ends at a space or at the newline.
use Rattle.std.specs.Prelude.{ℕ, Bool, true, false, List, [], ◌∷◌, nat_le}

-- a space, the newline, or another byte that stands in no word
abbrev pub is_mark : ℕ → Bool
is_mark c = nat_le c 32

-- one byte more in front of the first word
abbrev pub longer : ℕ → List (List ℕ) → List (List ℕ)
longer c [] = (c ∷ []) ∷ []
longer c (w ∷ ws) = (c ∷ w) ∷ ws

-- a byte in front of words: a mark ends an empty word
abbrev pub in_front : Bool → ℕ → List (List ℕ) → List (List ℕ)
in_front true c ws = [] ∷ ws
in_front false c ws = longer c ws

-- the words of a text
unfoldable pub words : List ℕ → List (List ℕ)
words [] = []
words (c ∷ cs) = in_front (is_mark c) c (words cs)

-- the first word, or an empty one where there is none
abbrev pub first : List (List ℕ) → List ℕ
first [] = []
first (w ∷ ws) = w

-- the words behind the first
abbrev pub behind : List (List ℕ) → List (List ℕ)
behind [] = []
behind (w ∷ ws) = ws
