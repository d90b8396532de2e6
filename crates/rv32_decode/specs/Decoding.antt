-- The answers of a decoder.
use Rattle.std.specs.Prelude.{◌≡◌, ◌≢◌, ℕ, Option, Some, None}
use Rattle.dash_base.specs.declared.instr.Instr.{Instr}
use Rattle.rv32_decode.specs.Layout.{word_of}

-- the answer at a word: the instruction that has it, or None where there is none
abbrev pub IsDecoding : ℕ → Option Instr → Type 0
IsDecoding word (Some i) = word_of i ≡ word
IsDecoding word None = (i : Instr) → word_of i ≢ word
