-- How numbers, words and names are spelled.
use Rattle.std.specs.Prelude.{ℕ, ◌^◌, ◌-◌, false, List, [], ◌∷◌, codes, decimal, Option, Some, None}
use Rattle.std.specs.Fmt.{digits, format_spec, padded_integral}
use Rattle.dash_base.specs.declared.end.Trap.{Trap}
use Rattle.dash_base.specs.declared.end.Trap.TheVariants as trap

abbrev pub newline : List ℕ
newline = 10 ∷ []

abbrev pub space : List ℕ
space = 32 ∷ []

-- eight small hexadecimal digits: a word, a code or an address
unfoldable pub hex : ℕ → List ℕ
hex n = padded_integral (format_spec 32 0 4 8 (2 ^ 64 - 1)) false [] (digits 16 false n)

-- two small hexadecimal digits: a byte
unfoldable pub hex_byte : ℕ → List ℕ
hex_byte n = padded_integral (format_spec 32 0 4 2 (2 ^ 64 - 1)) false [] (digits 16 false n)

-- a word, or `-` for none
abbrev pub word_text : Option ℕ → List ℕ
word_text (Some word) = hex word
word_text None = codes "-"

-- a number, or `-` for none
abbrev pub number_text : Option ℕ → List ℕ
number_text (Some n) = decimal n
number_text None = codes "-"

abbrev pub cause_text : Trap → List ℕ
cause_text trap.Illegal = codes "illegal"
cause_text trap.Misaligned = codes "misaligned"
cause_text trap.Unmapped = codes "unmapped"
cause_text trap.ReadOnly = codes "readonly"
cause_text trap.Fetch = codes "fetch"
cause_text trap.LockUse = codes "lockuse"
cause_text trap.BadCall = codes "badcall"
cause_text trap.Break = codes "break"
