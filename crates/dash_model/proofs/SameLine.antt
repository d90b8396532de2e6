-- A test of whether two contents of a line are the same.
use Rattle.std.proofs.Common.{◌≡◌, ℕ, ◌==◌, ◌&&◌, Bool, true, false, List, [], ◌∷◌, refl, ap₂, arith}
use Rattle.std.proofs.lemmas.Bool.Decides.{nat_tests}
use Rattle.dash_base.specs.declared.line.Line.{Line}

unfoldable pub same_words : List ℕ → List ℕ → Bool
same_words [] [] = true
same_words (x ∷ xs) (y ∷ ys) = (x == y) && same_words xs ys
same_words _ _ = false

unfoldable pub same_line : Line → Line → Bool
same_line v d = (v.version == d.version) && same_words v.words d.words

self_words : (xs : List ℕ) → same_words xs xs ≡ true
unfolding same_words
self_words [] = refl
self_words (x ∷ xs) = let ih = self_words xs in grind (arith, nat_tests)

pub same-self : (d : Line) → same_line d d ≡ true
unfolding same_line
same-self d = let e = self_words d.words in grind (arith, nat_tests)

words_are : (xs ys : List ℕ) → same_words xs ys ≡ true → xs ≡ ys
unfolding same_words
words_are [] [] e = refl
words_are (x ∷ xs) (y ∷ ys) e =
    let here : x ≡ y = grind (arith, nat_tests) in
    let there : same_words xs ys ≡ true = grind (arith, nat_tests) in
    ap₂ (λ z zs. z ∷ zs) here (words_are xs ys there)
words_are [] (y ∷ ys) e = absurd (cc)
words_are (x ∷ xs) [] e = absurd (cc)

pub same-is : (v d : Line) → same_line v d ≡ true → v ≡ d
unfolding same_line
same-is v d e =
    let versions : v.version ≡ d.version = grind (arith, nat_tests) in
    let tests : same_words v.words d.words ≡ true = grind (arith, nat_tests) in
    let words = words_are v.words d.words tests in
    λ i. record { words = words i; version = versions i }
