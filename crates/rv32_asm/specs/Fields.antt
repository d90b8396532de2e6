-- The fields of an instruction, each read from its operand. What has a fault is taken as 0.
use Rattle.std.specs.Prelude.{ℕ, ◌%◌, ◌==◌, ◌&&◌, Bool, List, [], ◌∷◌, ℤ, pos, neg_ℤ, unsigned_abs, int_le, Option, Some, None, Result, Ok, Err, if◌then◌else◌}
use Rattle.asm_words.specs.Names.{is_plain}
use Rattle.asm_words.specs.Numbers.{number_of}
use Rattle.asm_words.specs.Operands.{place_of}
use Rattle.asm_words.specs.Tables.{register_of}
use Rattle.asm_words.specs.declared.operands.Place.{Place}
use Rattle.rv32_asm.specs.declared.refusal.AsmCause.{AsmCause}
use Rattle.rv32_asm.specs.declared.refusal.AsmCause.TheVariants.{Shape, Name, Immediate}
use Rattle.rv32_asm.specs.declared.fields.RegisterField.{RegisterField}
use Rattle.rv32_asm.specs.declared.fields.NumberField.{NumberField}
use Rattle.rv32_asm.specs.declared.fields.PlaceField.{PlaceField}

-- of two faults the one that is told: Shape before Name before Immediate
abbrev pub worst : Option AsmCause → Option AsmCause → Option AsmCause
worst None b = b
worst a None = a
worst (Some Shape) b = Some Shape
worst a (Some Shape) = Some Shape
worst (Some Name) b = Some Name
worst a (Some Name) = Some Name
worst a b = Some Immediate

-- in a register's place a word of letters and digits that names none is a Name, and another word a Shape
abbrev pub no_register : List ℕ → AsmCause
no_register word = if is_plain word then Name else Shape

abbrev pub register_or : Option ℕ → List ℕ → RegisterField
register_or (Some n) word = record { register = n; fault = None }
register_or None word = record { register = 0; fault = Some (no_register word) }

unfoldable pub register_field : List ℕ → RegisterField
register_field word = register_or (register_of word) word

-- a number from the least to the greatest that is a multiple
abbrev pub fits : ℤ → ℤ → ℕ → ℤ → Bool
fits least greatest step z = int_le least z && int_le z greatest && (unsigned_abs z % step == 0)

abbrev pub number_or : ℤ → ℤ → ℕ → Option ℤ → NumberField
number_or least greatest step None = record { value = pos 0; fault = Some Shape }
number_or least greatest step (Some z) =
    if fits least greatest step z then record { value = z; fault = None }
    else record { value = pos 0; fault = Some Immediate }

unfoldable pub number_field : ℤ → ℤ → ℕ → List ℕ → NumberField
number_field least greatest step word = number_or least greatest step (number_of word)

-- `OFFSET(BASE)`, with an offset from the least to the greatest that is a multiple
abbrev pub place_or : ℤ → ℤ → ℕ → Option Place → PlaceField
place_or least greatest step None = record { offset = pos 0; base = 0; fault = Some Shape }
place_or least greatest step (Some p) =
    let number = number_field least greatest step p.offset in
    let register = register_field p.base in
    record { offset = number.value; base = register.register; fault = worst number.fault register.fault }

unfoldable pub place_field : ℤ → ℤ → ℕ → List ℕ → PlaceField
place_field least greatest step word = place_or least greatest step (place_of word)

-- `(BASE)`, with no offset
abbrev pub bare : List ℕ → List ℕ → RegisterField
bare [] base = register_field base
bare (c ∷ cs) base = record { register = 0; fault = Some Shape }

abbrev pub bare_or : Option Place → RegisterField
bare_or None = record { register = 0; fault = Some Shape }
bare_or (Some p) = bare p.offset p.base

unfoldable pub bare_field : List ℕ → RegisterField
bare_field word = bare_or (place_of word)
