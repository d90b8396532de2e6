-- Offsets and immediates are small numbers, of which the library knows the digits.
use Rattle.std.proofs.Common.{ℕ, ◌-◌, ◌^◌, ◌<◌, ℤ, pos, negsuc, neg_ℤ, ◌≤ℤ◌, ◌<ℤ◌, arith}
use Rattle.std.proofs.lemmas.Int.{ints}
use Rattle.std.proofs.lemmas.Nat.{pow_below}
use Rattle.dash_base.specs.Ranges.{FitsBits, FitsImmediate}
use Rattle.dash_base.specs.declared.ops.AluOp.{AluOp}
use Rattle.rv32_decode.specs.Hints.{offset_of}
use lib.Signed.{mag}

small : (bound : ℕ) (z : ℤ) → bound < 2 ^ 62 → neg_ℤ (pos bound) ≤ℤ z → z <ℤ pos bound → mag z < 2 ^ 63
small bound (pos n) fits low high = omega (arith, ints)
small bound (negsuc n) fits low high = omega (arith, ints)

pub small_bits : (width : ℕ) (z : ℤ) → width < 62 → FitsBits width z → mag z < 2 ^ 63
small_bits width z narrow fits = small (2 ^ (width - 1)) z (pow_below (width - 1) 62 (omega arith)) fits.low fits.high

within : (op : AluOp) (z : ℤ) → FitsImmediate op z → mag z < 2048
within op z fits = grind (arith, ints)

pub small_immediate : (op : AluOp) (z : ℤ) → FitsImmediate op z → mag z < 2 ^ 63
small_immediate op z fits = let near = within op z fits in omega arith

pub small_offset : (op : AluOp) (z : ℤ) → FitsImmediate op z → mag (offset_of z) < 2 ^ 63
small_offset op z fits = let near = within op z fits in grind (arith, ints)
