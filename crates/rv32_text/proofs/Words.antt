-- A text is cut into words at its spaces, commas and parentheses, which no word has.
use Rattle.std.proofs.Common.{◌≡◌, ℕ, Bool, true, false, not, ◌&&◌, ltb, List, [], ◌∷◌, ◌++◌, refl, ap, ◌∙◌}

-- a space, a comma or a parenthesis: they stand below the minus sign, the dot, the digits and the letters
abbrev pub is_mark : ℕ → Bool
is_mark c = ltb c 45

unfoldable pub is_word : List ℕ → Bool
is_word [] = true
is_word (c ∷ cs) = not (is_mark c) && is_word cs

-- one byte more in front of the first word
abbrev pub longer : ℕ → List (List ℕ) → List (List ℕ)
longer c [] = (c ∷ []) ∷ []
longer c (w ∷ ws) = (c ∷ w) ∷ ws

-- a byte in front of words: a mark ends an empty word
abbrev pub in_front : Bool → ℕ → List (List ℕ) → List (List ℕ)
in_front true c ws = [] ∷ ws
in_front false c ws = longer c ws

-- the words between the marks of a text, one more than it has marks
unfoldable pub words : List ℕ → List (List ℕ)
words [] = [] ∷ []
words (c ∷ cs) = in_front (is_mark c) c (words cs)

pub first_of_both : (a b : Bool) → a && b ≡ true → a ≡ true
first_of_both true b e = refl
first_of_both false b e = absurd (cc)

pub second_of_both : (a b : Bool) → a && b ≡ true → b ≡ true
second_of_both true b e = e
second_of_both false b e = absurd (cc)

no_mark : (b : Bool) → not b ≡ true → b ≡ false
no_mark true e = absurd (cc)
no_mark false e = refl

-- a word begins with no mark, and goes on as a word
word_head : (c : ℕ) (cs : List ℕ) → is_word (c ∷ cs) ≡ true → is_mark c ≡ false
unfolding is_word
word_head c cs word = no_mark (is_mark c) (first_of_both (not (is_mark c)) (is_word cs) word)

word_tail : (c : ℕ) (cs : List ℕ) → is_word (c ∷ cs) ≡ true → is_word cs ≡ true
unfolding is_word
word_tail c cs word = second_of_both (not (is_mark c)) (is_word cs) word

-- a word with a mark behind it is the first of the words
pub word_then : (w : List ℕ) (mark : ℕ) (rest : List ℕ) → is_word w ≡ true → is_mark mark ≡ true
    → words (w ++ mark ∷ rest) ≡ w ∷ words rest
unfolding words
word_then [] mark rest word ends = ap (λ b. in_front b mark (words rest)) ends
word_then (c ∷ cs) mark rest word ends =
    ap (λ b. in_front b c (words (cs ++ mark ∷ rest))) (word_head c cs word)
    ∙ ap (longer c) (word_then cs mark rest (word_tail c cs word) ends)

-- a word with nothing behind it is the only one
pub word_alone : (w : List ℕ) → is_word w ≡ true → words w ≡ w ∷ []
unfolding words
word_alone [] word = refl
word_alone (c ∷ cs) word =
    ap (λ b. in_front b c (words cs)) (word_head c cs word) ∙ ap (longer c) (word_alone cs (word_tail c cs word))

-- two words in one
pub word_append : (v w : List ℕ) → is_word v ≡ true → is_word w ≡ true → is_word (v ++ w) ≡ true
unfolding is_word
word_append [] w first second = second
word_append (c ∷ cs) w first second =
    ap (λ b. not b && is_word (cs ++ w)) (word_head c cs first) ∙ word_append cs w (word_tail c cs first) second
