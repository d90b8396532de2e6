-- The product of two signed words fits 64 bits.
use Rattle.std.proofs.Common.{arith, ◌*ℤ◌, ◌^◌, ◌≤◌, FitsSigned, w64}
use Rattle.std.proofs.lemmas.Int.{fits_signed_mul, ints, to_z-of_z}
use Rattle.std.specs.Prelude.{unsigned_abs}
use Rattle.rv32_alu.specs.Arithmetic.{signed}
use Rattle.rv32_alu.proofs.product.mulh.Goals as goal

pub returns : goal.returns
returns c =
    let a_fits : unsigned_abs (signed c.args.a) ≤ 2 ^ 31 = omega (arith, ints) in
    let b_fits : unsigned_abs (signed c.args.b) ≤ 2 ^ 31 = omega (arith, ints) in
    let fits : FitsSigned w64 (signed c.args.a *ℤ signed c.args.b) = fits_signed_mul w64 (signed c.args.a) (signed c.args.b) (2 ^ 31) (2 ^ 31) a_fits b_fits (omega arith) in
    grind (arith, to_z-of_z)
