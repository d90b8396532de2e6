-- The only newline of a line is its last byte, so where a line stands in front of a text it is the text's first.
use Rattle.std.proofs.Common.{◌≡◌, ℕ, zero, suc, ◌<◌, Bool, true, false, not, cond, length, slice_index, List, [], ◌∷◌, ◌++◌, refl, ap, sym, ◌∙◌, arith}
use Rattle.std.proofs.lemmas.Bool.Decides.{nat_tests}
use Rattle.trace_text.specs.Reading.{is_newline}
use Rattle.trace_text.specs.Spelling.{newline}
use Rattle.trace_text.specs.Words.{is_mark}
use Rattle.trace_text.proofs.Cuts.{is_word, no_mark, second_of_both}

-- no byte is there
is_empty : List ℕ → Bool
is_empty [] = true
is_empty (c ∷ cs) = false

-- a newline is there, and the first is the last byte
pub ends_once : List ℕ → Bool
ends_once [] = false
ends_once (c ∷ cs) = cond (is_newline c) (is_empty cs) (ends_once cs)

pub space_once : (rest : List ℕ) → ends_once (32 ∷ rest) ≡ ends_once rest
unfolding ends_once
space_once rest = refl

pub newline_once : ends_once newline ≡ true
unfolding ends_once is_empty
newline_once = refl

no_newline : (c : ℕ) → is_mark c ≡ false → is_newline c ≡ false
no_newline c high = grind (arith, nat_tests)

-- a word has no newline
pub word_once : (w rest : List ℕ) → is_word w ≡ true → ends_once (w ++ rest) ≡ ends_once rest
unfolding is_word ends_once
word_once [] rest word = refl
word_once (c ∷ cs) rest word =
    ap (λ b. cond b (is_empty (cs ++ rest)) (ends_once (cs ++ rest))) (no_newline c (no_mark (is_mark c) (is_word cs) word))
    ∙ word_once cs rest (second_of_both (not (is_mark c)) (is_word cs) word)

-- the bytes up to the first newline, and those behind it
lead : List ℕ → List ℕ
lead [] = []
lead (c ∷ cs) = cond (is_newline c) (c ∷ []) (c ∷ lead cs)

others : List ℕ → List ℕ
others [] = []
others (c ∷ cs) = cond (is_newline c) cs (others cs)

lead_step : (b : Bool) (c : ℕ) (cs rest : List ℕ) → cond b (is_empty cs) (ends_once cs) ≡ true
    → (ends_once cs ≡ true → lead (cs ++ rest) ≡ cs) → cond b (c ∷ []) (c ∷ lead (cs ++ rest)) ≡ c ∷ cs
unfolding is_empty
lead_step true c [] rest once other = refl
lead_step true c (d ∷ ds) rest once other = absurd (cc)
lead_step false c cs rest once other = ap (λ xs. c ∷ xs) (other once)

lead_is : (line rest : List ℕ) → ends_once line ≡ true → lead (line ++ rest) ≡ line
unfolding ends_once lead
lead_is [] rest once = absurd (cc)
lead_is (c ∷ cs) rest once = lead_step (is_newline c) c cs rest once (lead_is cs rest)

others_step : (b : Bool) (cs rest : List ℕ) → cond b (is_empty cs) (ends_once cs) ≡ true
    → (ends_once cs ≡ true → others (cs ++ rest) ≡ rest) → cond b (cs ++ rest) (others (cs ++ rest)) ≡ rest
unfolding is_empty
others_step true [] rest once other = refl
others_step true (d ∷ ds) rest once other = absurd (cc)
others_step false cs rest once other = other once

others_are : (line rest : List ℕ) → ends_once line ≡ true → others (line ++ rest) ≡ rest
unfolding ends_once others
others_are [] rest once = absurd (cc)
others_are (c ∷ cs) rest once = others_step (is_newline c) cs rest once (others_are cs rest)

-- two lines in front of one text are one line
pub same_lead : (line other rest last : List ℕ) → ends_once line ≡ true → ends_once other ≡ true → line ++ rest ≡ other ++ last
    → line ≡ other
same_lead line other rest last once also same = sym (lead_is line rest once) ∙ ap lead same ∙ lead_is other last also

-- and have the same behind them
pub same_others : (line other rest last : List ℕ) → ends_once line ≡ true → ends_once other ≡ true → line ++ rest ≡ other ++ last
    → rest ≡ last
same_others line other rest last once also same = sym (others_are line rest once) ∙ ap others same ∙ others_are other last also

-- a line has a byte
pub some_byte : (line rest : List ℕ) → ends_once line ≡ true → [] ≡ line ++ rest → ⊥
unfolding ends_once
some_byte [] rest once none = cc
some_byte (c ∷ cs) rest once none = cc

-- where a body has no newline, it is a line with one behind it
pub body_once : (body : List ℕ) → ((i : ℕ) → i < length body → is_newline (slice_index body i) ≡ false) → ends_once (body ++ newline) ≡ true
unfolding ends_once is_empty
body_once [] each = refl
body_once (c ∷ cs) each =
    ap (λ b. cond b (is_empty (cs ++ newline)) (ends_once (cs ++ newline))) (each zero (omega arith))
    ∙ body_once cs (λ i below. each (suc i) (omega arith))

newline_of : (b : Bool) → cond b true false ≡ true → b ≡ true
newline_of true once = refl
newline_of false once = absurd (cc)

other_of : (b more : Bool) → cond b false more ≡ true → more ≡ true
other_of true more once = absurd (cc)
other_of false more once = once

-- a byte that is a line by itself
pub alone : (c : ℕ) → ends_once (c ∷ []) ≡ true → is_newline c ≡ true
unfolding ends_once is_empty
alone c once = newline_of (is_newline c) once

-- a line without its first byte, where more stand behind it
pub shorter_once : (c d : ℕ) (cs : List ℕ) → ends_once (c ∷ d ∷ cs) ≡ true → ends_once (d ∷ cs) ≡ true
unfolding ends_once is_empty
shorter_once c d cs once = other_of (is_newline c) _ once
