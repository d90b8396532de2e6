-- A table of texts by number tells its numbers apart where each is found again by its text.
use Rattle.std.proofs.Common.{◌≡◌, ℕ, zero, suc, ◌<◌, Bool, true, false, ◌&&◌, if◌then◌else◌, eqb, List, [], ◌∷◌, ap, sym, ◌∙◌, arith, eqb-true, eq-or-lt_of_le, le_of_suc-le-suc, inl, inr}
use Rattle.rv32_text.proofs.Words.{first_of_both, second_of_both}

-- one text and another
abbrev pub is_same : List ℕ → List ℕ → Bool
is_same [] [] = true
is_same (a ∷ v) (b ∷ w) = eqb a b && is_same v w
is_same _ _ = false

-- the greatest number below a limit at which a table has a text; 0 where there is none
abbrev pub number_of : (ℕ → List ℕ) → ℕ → List ℕ → ℕ
number_of table zero text = 0
number_of table (suc n) text = if is_same (table n) text then n else number_of table n text

-- a test that passes at each number below a limit
abbrev pub passes_below : (ℕ → Bool) → ℕ → Bool
passes_below test zero = true
passes_below test (suc n) = test n && passes_below test n

pub passes : (test : ℕ → Bool) (limit : ℕ) → passes_below test limit ≡ true → (n : ℕ) → n < limit → test n ≡ true
passes test zero all n below = absurd (omega arith)
passes test (suc limit) all n below =
    elim (eq-or-lt_of_le (le_of_suc-le-suc below)) [
      | inl last ↦ ap test last ∙ first_of_both (test limit) (passes_below test limit) all
      | inr lower ↦ passes test limit (second_of_both (test limit) (passes_below test limit) all) n lower
    ]

-- a number is found again by its text
abbrev pub is_found : (ℕ → List ℕ) → ℕ → ℕ → Bool
is_found table limit n = eqb (number_of table limit (table n)) n

-- where each is, no two have one text
pub one_number : (table : ℕ → List ℕ) (limit : ℕ) → passes_below (is_found table limit) limit ≡ true
    → (m n : ℕ) → m < limit → n < limit → table m ≡ table n → m ≡ n
one_number table limit found m n m_below n_below e =
    sym (eqb-true _ _ (passes (is_found table limit) limit found m m_below))
    ∙ ap (number_of table limit) e
    ∙ eqb-true _ _ (passes (is_found table limit) limit found n n_below)
