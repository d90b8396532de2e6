-- What the assembler makes of the spelling of an instruction.
use Rattle.std.specs.Prelude.{◌≡◌, ℕ, ◌+◌, ◌*◌, ◌^◌, Ok}
use Rattle.dash_base.specs.declared.instr.Instr.{Instr}
use Rattle.dash_base.specs.declared.instr.Instr.TheVariants as instr
use Rattle.rv32_decode.specs.Layout.{i_type, word_of}
use Rattle.rv32_text.specs.Text.{text_of}
use Rattle.rv32_asm.specs.Lines.{reading}
use Rattle.rv32_asm.specs.declared.statement.Statement.TheVariants.{Put}

-- the word of an instruction as its spelling tells it: of a fence the fm, rd and rs1 are not spelled, and 0
abbrev pub spelled_word : Instr → ℕ
spelled_word (instr.Fence f) = i_type (0 * 2 ^ 8 + f.pred * 2 ^ 4 + f.succ) 0 0b000 0 0b0001111
spelled_word i = word_of i

-- a line with the spelling of an instruction says its word
abbrev pub TextsAreRead : Type 0
TextsAreRead = (i : Instr) → reading (text_of i) ≡ Ok (Put (spelled_word i))
