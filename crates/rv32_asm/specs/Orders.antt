-- What a pair of instructions gives a register, and how the bytes of a program follow its lines.
use Rattle.std.specs.Prelude.{◌≡◌, ℕ, ◌+◌, ◌*◌, ◌%◌, ◌^◌, ◌<◌, ℤ, List, [], ◌∷◌, ◌++◌, Option, None}
use Rattle.dash_base.specs.Ranges.{FitsBits}
use Rattle.rv32_decode.specs.Layout.{in_bits}
use Rattle.rv32_encode.specs.Elf.{contents}
use Rattle.rv32_asm.specs.Causes.{Definitions, refusal_of}
use Rattle.rv32_asm.specs.Labels.{definitions, lines, moved}
use Rattle.rv32_asm.specs.Lines.{reading}
use Rattle.rv32_asm.specs.Programs.{line_bytes, program_of, upper_part}

-- the immediate of the ADDI of a pair, whose twelve bits are the low ones of the value: added to what LUI gives,
-- it makes the value
pub record Completes (value : ℕ) : Type 0 where
  pub immediate : ℤ
  pub fits : FitsBits 12 immediate
  pub bits : in_bits 12 immediate ≡ value % 4096
  pub sum : (4096 * upper_part value + in_bits 32 immediate) % 2 ^ 32 ≡ value

abbrev pub PairsGiveTheirValue : Type 0
PairsGiveTheirValue = (value : ℕ) → value < 2 ^ 32 → Completes value

-- the bytes that lines put, one line behind the other
unfoldable pub bytes_of_lines : Definitions → Option ℕ → List (List ℕ) → List ℕ
bytes_of_lines labels place [] = []
bytes_of_lines labels place (l ∷ ls) = line_bytes labels place (reading l) ++ bytes_of_lines labels (moved place (reading l)) ls

-- the bytes of the segments of an accepted source are those of its lines, in their order
abbrev pub BytesFollowLines : Type 0
BytesFollowLines =
    (source : List ℕ) → refusal_of source ≡ None
    → contents (program_of source).segments ≡ bytes_of_lines (definitions source) None (lines source)
