-- The tests of one flag.
use Rattle.std.proofs.Common.{◌≡◌, ◌*◌, ◌/◌, ◌%◌, ℕ, bit_and}
use Rattle.std.proofs.lemmas.Nat.Bits.{and_pow}

-- the flag of bit 1
pub and_two : (n : ℕ) → bit_and n 2 ≡ n / 2 % 2 * 2
and_two n = and_pow n 1

-- the flag of bit 3
pub and_eight : (n : ℕ) → bit_and n 8 ≡ n / 8 % 2 * 8
and_eight n = and_pow n 3
