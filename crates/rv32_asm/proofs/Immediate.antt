-- The limits of an operation's immediate are those of its field.
use Rattle.std.proofs.Common.{◌≡◌, ℤ, pos, ◌≤ℤ◌, arith}
use Rattle.std.proofs.lemmas.Int.{ints}
use Rattle.dash_base.specs.Ranges.{FitsImmediate}
use Rattle.dash_base.specs.declared.ops.AluOp.{AluOp}
use Rattle.rv32_asm.specs.Rows.{least_of, greatest_of}

pub fits_immediate : (op : AluOp) (z y l g : ℤ) → z ≡ y → l ≡ least_of op → g ≡ greatest_of op → l ≤ℤ y → y ≤ℤ g → FitsImmediate op z
fits_immediate op z y l g is least greatest low high = record { low = grind (arith, ints); high = grind (arith, ints) }
