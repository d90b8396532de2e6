-- Bytes moved to their place in a word still fit it.
use Rattle.std.proofs.Common.{◌≡◌, ℕ, ◌*◌, ◌%◌, ◌^◌, ◌<◌, zero, suc, arith, bit_and}
use Rattle.std.proofs.lemmas.Nat.{and_mask}
use Rattle.std.proofs.Math.Nat.{mod-eq_of_lt}

-- one byte, at each of four places
pub byte_fits : (v p : ℕ) → v < 2 ^ 8 → p < 4 → v * 2 ^ (8 * p) < 2 ^ 32
byte_fits v zero small place = omega arith
byte_fits v (suc zero) small place = omega arith
byte_fits v (suc (suc zero)) small place = omega arith
byte_fits v (suc (suc (suc zero))) small place = omega arith
byte_fits v (suc (suc (suc (suc p)))) small place = absurd (omega arith)

-- two bytes, at each of two places
pub half_fits : (v p : ℕ) → v < 2 ^ 16 → p < 4 → p % 2 ≡ 0 → v * 2 ^ (8 * p) < 2 ^ 32
half_fits v zero small place even = omega arith
half_fits v (suc zero) small place even = absurd (omega arith)
half_fits v (suc (suc zero)) small place even = omega arith
half_fits v (suc (suc (suc zero))) small place even = absurd (omega arith)
half_fits v (suc (suc (suc (suc p)))) small place even = absurd (omega arith)

-- the place of an address that is a multiple of 2
pub place_even : (a : ℕ) → a % 2 ≡ 0 → a % 4 % 2 ≡ 0
place_even a even = omega arith

pub place_small : (a : ℕ) → a % 4 < 4
place_small a = omega arith

pub byte_placed : (v a : ℕ) → bit_and v 255 * 2 ^ (8 * (a % 4)) % 2 ^ 32 ≡ v % 2 ^ 8 * 2 ^ (8 * (a % 4))
byte_placed v a =
    let masked : bit_and v 255 ≡ v % 2 ^ 8 = and_mask v 8 in
    let small : v % 2 ^ 8 < 2 ^ 8 = omega arith in
    rw masked (mod-eq_of_lt (byte_fits (v % 2 ^ 8) (a % 4) small (place_small a)))

pub half_placed : (v a : ℕ) → a % 2 ≡ 0 → bit_and v 65535 * 2 ^ (8 * (a % 4)) % 2 ^ 32 ≡ v % 2 ^ 16 * 2 ^ (8 * (a % 4))
half_placed v a even =
    let masked : bit_and v 65535 ≡ v % 2 ^ 16 = and_mask v 16 in
    let small : v % 2 ^ 16 < 2 ^ 16 = omega arith in
    rw masked (mod-eq_of_lt (half_fits (v % 2 ^ 16) (a % 4) small (place_small a) (place_even a even)))

-- the masks of one byte and of two
pub byte_mask_fits : (p : ℕ) → p < 4 → 1 * 2 ^ p < 16
byte_mask_fits zero place = omega arith
byte_mask_fits (suc zero) place = omega arith
byte_mask_fits (suc (suc zero)) place = omega arith
byte_mask_fits (suc (suc (suc zero))) place = omega arith
byte_mask_fits (suc (suc (suc (suc p)))) place = absurd (omega arith)

pub half_mask_fits : (p : ℕ) → p < 4 → p % 2 ≡ 0 → 3 * 2 ^ p < 16
half_mask_fits zero place even = omega arith
half_mask_fits (suc zero) place even = omega arith
half_mask_fits (suc (suc zero)) place even = omega arith
half_mask_fits (suc (suc (suc zero))) place even = absurd (omega arith)
half_mask_fits (suc (suc (suc (suc p)))) place even = absurd (omega arith)

-- a number that fits a mask fits a word
pub small_in_word : (m : ℕ) → m < 16 → m % 2 ^ 32 ≡ m
small_in_word m small = mod-eq_of_lt (omega arith)

pub byte_mask : (a : ℕ) → 1 * 2 ^ (a % 4) % 2 ^ 32 ≡ 1 * 2 ^ (a % 4)
byte_mask a = small_in_word _ (byte_mask_fits (a % 4) (place_small a))

pub half_mask : (a : ℕ) → a % 2 ≡ 0 → 3 * 2 ^ (a % 4) % 2 ^ 32 ≡ 3 * 2 ^ (a % 4)
half_mask a even = small_in_word _ (half_mask_fits (a % 4) (place_small a) (place_even a even))
