-- A mask of so many bits takes the remainder.
use Rattle.std.proofs.Common.{arith, ◌<◌, refl}
use Rattle.std.proofs.lemmas.Nat.{one_shl, and_mask}
use Rattle.rv32_encode.proofs.fields.bits.Goals as goal

pub returns : goal.returns
returns c =
    let small : c.args.width < 32 = omega arith in
    rw (one_shl c.args.width 32 small, and_mask) refl
