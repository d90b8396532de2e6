-- What is spelled is read back.
use Rattle.std.specs.Prelude.{◌≡◌, ℕ, ◌^◌, ◌<◌, ℤ, Some, IsTrue, unsigned_abs}
use Rattle.std.specs.Fmt.{signed_decimal}
use Rattle.rv32_text.specs.Names.{register, fence_set}
use Rattle.asm_words.specs.Mnemonics.{is_used, mnemonic_of, spelled}
use Rattle.asm_words.specs.Numbers.{number_of}
use Rattle.asm_words.specs.Tables.{register_of, fence_set_of}
use Rattle.asm_words.specs.declared.mnemonic.Mnemonic.{Mnemonic}

-- the number read from the decimal spelling of a number is that number
abbrev pub NumbersAreRead : Type 0
NumbersAreRead = (z : ℤ) → unsigned_abs z < 2 ^ 33 → number_of (signed_decimal z) ≡ Some z

-- the register read from the name of a register is that register
abbrev pub RegistersAreRead : Type 0
RegistersAreRead = (n : ℕ) → n < 32 → register_of (register n) ≡ Some n

-- the same of the sets of a fence
abbrev pub FenceSetsAreRead : Type 0
FenceSetsAreRead = (n : ℕ) → n < 16 → fence_set_of (fence_set n) ≡ Some n

-- the same of each mnemonic and directive
abbrev pub MnemonicsAreRead : Type 0
MnemonicsAreRead = (m : Mnemonic) → IsTrue (is_used m) → mnemonic_of (spelled m) ≡ Some m
