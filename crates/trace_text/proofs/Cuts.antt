-- A text is cut where its first word ends, and a word with a mark behind it is the first of the words.
use Rattle.std.proofs.Common.{◌≡◌, ℕ, ◌+◌, ◌-◌, ◌≤◌, ◌<◌, Bool, true, false, not, ◌&&◌, cond, ltb, length, take, drop, List, [], ◌∷◌, ◌++◌, Some, None, unwrap_or, position, refl, ap, sym, ◌∙◌, arith, add_comm}
use Rattle.std.specs.List.{position_or_len}
use Rattle.std.proofs.Math.Seq.{take-length}
use Rattle.std.proofs.lemmas.Bool.Decides.{nat_tests}
use Rattle.trace_text.specs.Words.{is_mark, longer, in_front, words, first, behind}

first_longer : (c : ℕ) (ws : List (List ℕ)) → first (longer c ws) ≡ c ∷ first ws
first_longer c [] = refl
first_longer c (w ∷ ws) = refl

behind_longer : (c : ℕ) (ws : List (List ℕ)) → behind (longer c ws) ≡ behind ws
behind_longer c [] = refl
behind_longer c (w ∷ ws) = refl

pub take_more : (n x : ℕ) (xs : List ℕ) → take (1 + n) (x ∷ xs) ≡ x ∷ take n xs
take_more n x xs = rw (add_comm 1 n) (grind arith)

pub drop_more : (n x : ℕ) (xs : List ℕ) → drop (1 + n) (x ∷ xs) ≡ drop n xs
drop_more n x xs = rw (add_comm 1 n) (grind arith)

first_step : (b : Bool) (n x : ℕ) (xs : List ℕ) (ws : List (List ℕ)) → take n xs ≡ first ws
    → take (cond (not b) (1 + n) 0) (x ∷ xs) ≡ first (in_front b x ws)
first_step true n x xs ws e = refl
first_step false n x xs ws e = take_more n x xs ∙ ap (λ w. x ∷ w) e ∙ sym (first_longer x ws)

behind_step : (b : Bool) (n x : ℕ) (xs : List ℕ) → words (drop 1 (drop n xs)) ≡ behind (words xs)
    → words (drop 1 (drop (cond (not b) (1 + n) 0) (x ∷ xs))) ≡ behind (in_front b x (words xs))
behind_step true n x xs e = refl
behind_step false n x xs e = ap (λ ys. words (drop 1 ys)) (drop_more n x xs) ∙ e ∙ sym (behind_longer x (words xs))

-- the bytes before the first mark are the first word
pub first_is : (xs : List ℕ) → take (position_or_len is_mark xs) xs ≡ first (words xs)
unfolding words
first_is [] = refl
first_is (x ∷ xs) = first_step (is_mark x) (position_or_len is_mark xs) x xs (words xs) (first_is xs)

-- and those behind it are the other words
pub behind_is : (xs : List ℕ) → words (drop 1 (drop (position_or_len is_mark xs) xs)) ≡ behind (words xs)
unfolding words
behind_is [] = refl
behind_is (x ∷ xs) = behind_step (is_mark x) (position_or_len is_mark xs) x xs (behind_is xs)

-- how far the first byte is that passes
pub at_most : (p : ℕ → Bool) (xs : List ℕ) → position_or_len p xs ≤ length xs
at_most p [] = omega arith
at_most p (x ∷ xs) = let shorter = at_most p xs in grind (arith, nat_tests)

place : (b : Bool) (k n : ℕ) → k ≤ n → ltb k n ≡ b → unwrap_or (cond b (Some k) None) n ≡ k
place true k n most is = refl
place false k n most is = grind (arith, nat_tests)

pub place_is : (p : ℕ → Bool) (xs : List ℕ) → unwrap_or (position p xs) (length xs) ≡ position_or_len p xs
place_is p xs = place _ (position_or_len p xs) (length xs) (at_most p xs) refl

-- nothing is left of what has no byte
pub none_behind : (xs : List ℕ) → length xs < 1 → drop 1 xs ≡ xs
none_behind [] short = refl
none_behind (x ∷ xs) short = absurd (omega arith)

pub all_behind : (xs : List ℕ) → take (length xs - 1) (drop 1 xs) ≡ drop 1 xs
all_behind [] = refl
all_behind (x ∷ xs) = let one_less : length (x ∷ xs) - 1 ≡ length xs = omega arith in ap (λ n. take n xs) one_less ∙ take-length xs

-- no byte is a mark
unfoldable pub is_word : List ℕ → Bool
is_word [] = true
is_word (c ∷ cs) = not (is_mark c) && is_word cs

pub no_mark : (a b : Bool) → not a && b ≡ true → a ≡ false
no_mark true b e = absurd (cc)
no_mark false b e = refl

pub second_of_both : (a b : Bool) → a && b ≡ true → b ≡ true
second_of_both true b e = e
second_of_both false b e = absurd (cc)

-- a word with a mark behind it is the first of the words
pub word_then : (w : List ℕ) (mark : ℕ) (rest : List ℕ) → is_word w ≡ true → is_mark mark ≡ true
    → words (w ++ mark ∷ rest) ≡ w ∷ words rest
unfolding words is_word
word_then [] mark rest word ends = ap (λ b. in_front b mark (words rest)) ends
word_then (c ∷ cs) mark rest word ends =
    ap (λ b. in_front b c (words (cs ++ mark ∷ rest))) (no_mark (is_mark c) (is_word cs) word)
    ∙ ap (longer c) (word_then cs mark rest (second_of_both (not (is_mark c)) (is_word cs) word) ends)

-- two words in one
pub word_append : (v w : List ℕ) → is_word v ≡ true → is_word w ≡ true → is_word (v ++ w) ≡ true
unfolding is_word
word_append [] w left right = right
word_append (c ∷ cs) w left right =
    ap (λ b. not b && is_word (cs ++ w)) (no_mark (is_mark c) (is_word cs) left)
    ∙ word_append cs w (second_of_both (not (is_mark c)) (is_word cs) left) right
