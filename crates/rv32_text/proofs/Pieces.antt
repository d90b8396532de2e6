-- The operands of a spelling are words, and tell what they stand for.
use Rattle.std.proofs.Common.{◌≡◌, ℕ, suc, ◌+◌, ◌%◌, ◌^◌, ◌<◌, true, not, ◌&&◌, ℤ, pos, negsuc, [], ◌∷◌, decimal, refl, ap, arith, le-ltb}
use Rattle.std.proofs.lemmas.Fmt.{decimal_by_steps, signed_decimal_injective}
use Rattle.std.specs.Fmt.{signed_decimal}
use Rattle.dash_base.specs.Ranges.{FitsBits}
use Rattle.rv32_text.specs.Names.{fence_set, register}
use Rattle.rv32_text.proofs.Numbers.{small_bits}
use Rattle.rv32_text.proofs.Tables.{one_number, passes}
use Rattle.rv32_text.proofs.Words.{is_word, word_append}
use lib.Signed.{mag}

pub register_word : (n : ℕ) → n < 32 → is_word (register n) ≡ true
unfolding register is_word
register_word n below = passes (λ k. is_word (register k)) 32 refl n below

pub same_register : (m n : ℕ) → m < 32 → n < 32 → register m ≡ register n → m ≡ n
unfolding register
same_register m n m_below n_below e = one_number register 32 refl m n m_below n_below e

pub set_word : (n : ℕ) → n < 16 → is_word (fence_set n) ≡ true
unfolding fence_set is_word
set_word n below = passes (λ k. is_word (fence_set k)) 16 refl n below

pub same_set : (m n : ℕ) → m < 16 → n < 16 → fence_set m ≡ fence_set n → m ≡ n
unfolding fence_set
same_set m n m_below n_below e = one_number fence_set 16 refl m n m_below n_below e

digit_word : (n : ℕ) → is_word ((48 + n) ∷ []) ≡ true
unfolding is_word
digit_word n = ap (λ b. not b && true) (le-ltb (48 + n) 45 (omega arith))

pub decimal_word : (n : ℕ) → n < 2 ^ 64 → is_word (decimal n) ≡ true
decimal_word n below =
    decimal_by_steps (λ k ds. is_word ds ≡ true) (λ k small. digit_word k)
    (λ k ds big word. word_append ds ((48 + k % 10) ∷ []) word (digit_word (k % 10))) n below

-- a minus sign is no mark
pub number_word : (z : ℤ) → mag z < 2 ^ 63 → is_word (signed_decimal z) ≡ true
unfolding is_word
number_word (pos n) below = decimal_word n (omega arith)
number_word (negsuc n) below = decimal_word (suc n) (omega arith)

-- numbers of so many bits
pub same_number : (width : ℕ) (y z : ℤ) → width < 62 → FitsBits width y → FitsBits width z → signed_decimal y ≡ signed_decimal z → y ≡ z
same_number width y z narrow y_fits z_fits e =
    signed_decimal_injective y z (small_bits width y narrow y_fits) (small_bits width z narrow z_fits) e
