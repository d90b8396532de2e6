-- A mask that covers another has each of its bytes.
use Rattle.std.proofs.Common.{◌≡◌, ℕ, true, ap, sym, ◌∙◌, arith, bit_and}
use Rattle.std.specs.Prelude.{min}
use Rattle.std.specs.Int.{bit_at}
use Rattle.std.proofs.lemmas.Nat.Bits.{bit_at_and}
use Rattle.std.proofs.lemmas.Bool.Decides.{nat_tests}
use Rattle.dash_base.specs.Words.{has_byte}
use Rattle.write_buffer.specs.Look.{covers}

pub covers-has_byte : (mask asked k : ℕ) → covers mask asked ≡ true → has_byte asked k ≡ true → has_byte mask k ≡ true
covers-has_byte mask asked k c h =
    let same : bit_and mask asked ≡ asked = grind (arith, nat_tests) in
    let bit : bit_at asked k ≡ min (bit_at mask k) (bit_at asked k) = ap (λ n. bit_at n k) (sym same) ∙ bit_at_and mask asked k in
    grind (arith, nat_tests, bit)
