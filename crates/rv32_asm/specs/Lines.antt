-- What a line says.
use Rattle.std.specs.Prelude.{ℕ, ◌-◌, ◌==◌, ◌&&◌, Bool, List, [], ◌∷◌, length, take, slice_index, Option, Some, None, Result, Ok, Err, if◌then◌else◌}
use Rattle.asm_words.specs.Mnemonics.{mnemonic_of}
use Rattle.asm_words.specs.Names.{is_keyword, is_name}
use Rattle.asm_words.specs.Operands.{keyword_of, listed_in, statement_of}
use Rattle.asm_words.specs.declared.mnemonic.Mnemonic.{Mnemonic}
use Rattle.asm_words.specs.declared.operands.Operands.{Operands}
use Rattle.asm_words.specs.declared.operands.Operands.TheVariants.{Nothing}
use Rattle.rv32_asm.specs.Rows.{Reading, row_of}
use Rattle.rv32_asm.specs.declared.refusal.AsmCause.TheVariants.{Shape, Name}
use Rattle.rv32_asm.specs.declared.statement.Statement.TheVariants as says

-- a word without its last byte
abbrev pub front : List ℕ → List ℕ
front word = take (length word - 1) word

abbrev pub ends_with_colon : List ℕ → Bool
ends_with_colon word = slice_index word (length word - 1) == 58

-- `NAME:` alone
abbrev pub label_row : List ℕ → Operands → Reading
label_row word Nothing = if ends_with_colon word && is_name (front word) then Ok (says.Label (front word)) else Err Shape
label_row word _ = Err Shape

-- a line whose first word is no mnemonic and no directive
abbrev pub other_row : List ℕ → Operands → Reading
other_row word operands = if is_keyword word then Err Name else label_row word operands

abbrev pub row_or : Option Mnemonic → List ℕ → Operands → Reading
row_or (Some mnemonic) word operands = row_of mnemonic operands
row_or None word operands = other_row word operands

abbrev pub reading_of_statement : List ℕ → Reading
reading_of_statement [] = Ok says.Blank
reading_of_statement statement = row_or (mnemonic_of (keyword_of statement)) (keyword_of statement) (listed_in statement)

-- what a line says: nothing where it is blank
unfoldable pub reading : List ℕ → Reading
reading line = reading_of_statement (statement_of line)
