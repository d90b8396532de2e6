-- A quotient of two signed words that does not overflow fits a word, and so does the remainder.
use Rattle.std.proofs.Common.{arith, rules, ◌≡◌, ◌+ℤ◌, ◌*ℤ◌, ◌^◌, ◌<◌, ◌≤ℤ◌, ℕ, ℤ, pos, negsuc, FitsSigned, w32, false}
use Rattle.std.proofs.lemmas.Int.{quot-rem, rem_below, ints, to_z-of_z}
use Rattle.std.specs.Prelude.{unsigned_abs, int_div, int_rem}
use Rattle.rv32_alu.specs.Arithmetic.{overflows, quotient, remainder, signed}

quotient_fits : (a b : ℕ) → a < 2 ^ 32 → b < 2 ^ 32 → 0 < b → overflows a b ≡ false → FitsSigned w32 (int_div (signed a) (signed b))
quotient_fits a b a_fits b_fits some apart = search rules

remainder_fits : (a b : ℕ) → a < 2 ^ 32 → b < 2 ^ 32 → 0 < b → FitsSigned w32 (int_rem (signed a) (signed b))
remainder_fits a b a_fits b_fits some = search rules

quotient_is : (a b : ℕ) → a < 2 ^ 32 → b < 2 ^ 32 → 0 < b → overflows a b ≡ false → signed (quotient a b) ≡ int_div (signed a) (signed b)
quotient_is a b a_fits b_fits some apart =
    let fits = quotient_fits a b a_fits b_fits some apart in
    grind (arith, to_z-of_z)

remainder_is : (a b : ℕ) → a < 2 ^ 32 → b < 2 ^ 32 → 0 < b → overflows a b ≡ false → signed (remainder a b) ≡ int_rem (signed a) (signed b)
remainder_is a b a_fits b_fits some apart =
    let fits = remainder_fits a b a_fits b_fits some in
    grind (arith, to_z-of_z)

pub whole : (a b : ℕ) → a < 2 ^ 32 → b < 2 ^ 32 → 0 < b → overflows a b ≡ false → signed (quotient a b) *ℤ signed b +ℤ signed (remainder a b) ≡ signed a
whole a b a_fits b_fits some apart =
    rw (quotient_is a b a_fits b_fits some apart, remainder_is a b a_fits b_fits some apart) (quot-rem (signed a) (signed b))

pub below : (a b : ℕ) → a < 2 ^ 32 → b < 2 ^ 32 → 0 < b → overflows a b ≡ false → unsigned_abs (signed (remainder a b)) < unsigned_abs (signed b)
below a b a_fits b_fits some apart =
    let positive : 0 < unsigned_abs (signed b) = grind (arith, ints) in
    rw (remainder_is a b a_fits b_fits some apart) (rem_below (signed a) (signed b) positive)

rem_upward : (z d : ℤ) → pos 0 ≤ℤ z → pos 0 ≤ℤ int_rem z d
rem_upward (pos n) d sign = grind (arith, ints)
rem_upward (negsuc n) d sign = grind (arith, ints)

rem_downward : (z d : ℤ) → z ≤ℤ pos 0 → int_rem z d ≤ℤ pos 0
rem_downward (pos n) d sign = grind (arith, ints)
rem_downward (negsuc n) d sign = grind (arith, ints)

pub of_positive : (a b : ℕ) → a < 2 ^ 32 → b < 2 ^ 32 → 0 < b → overflows a b ≡ false → pos 0 ≤ℤ signed a → pos 0 ≤ℤ signed (remainder a b)
of_positive a b a_fits b_fits some apart sign =
    rw (remainder_is a b a_fits b_fits some apart) (rem_upward (signed a) (signed b) sign)

pub of_negative : (a b : ℕ) → a < 2 ^ 32 → b < 2 ^ 32 → 0 < b → overflows a b ≡ false → signed a ≤ℤ pos 0 → signed (remainder a b) ≤ℤ pos 0
of_negative a b a_fits b_fits some apart sign =
    rw (remainder_is a b a_fits b_fits some apart) (rem_downward (signed a) (signed b) sign)
