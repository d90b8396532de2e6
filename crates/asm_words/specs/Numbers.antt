-- The number that a word spells.
use Rattle.std.specs.Prelude.{ℕ, ◌^◌, ◌==◌, ◌&&◌, Bool, List, length, drop, min, nat_le, nat_lt, slice_index, ℤ, pos, neg_ℤ, Option, Some, None, if◌then◌else◌}
use Rattle.std.specs.List.{list_all}
use Rattle.std.specs.Char.{digit_value}
use Rattle.std.specs.Str.Parse.{digits_value}

abbrev pub is_digit : ℕ → ℕ → Bool
is_digit radix c = nat_lt (digit_value c) radix

-- one digit or more, and nothing else
unfoldable pub is_numeral : ℕ → List ℕ → Bool
is_numeral radix digits = nat_lt 0 (length digits) && list_all (is_digit radix) digits

-- a number beyond every field of an instruction and every address is taken as 2 ^ 33
abbrev pub capped : ℕ → ℕ
capped n = min n (2 ^ 33)

-- the value of decimal digits
unfoldable pub decimal_value : List ℕ → ℕ
decimal_value digits = capped (digits_value 10 digits)

-- the value of at most eight hexadecimal digits
unfoldable pub hex_value : List ℕ → ℕ
hex_value digits = capped (digits_value 16 digits)

abbrev pub positive : List ℕ → Option ℤ
positive digits = if is_numeral 10 digits then Some (pos (decimal_value digits)) else None

abbrev pub negative : List ℕ → Option ℤ
negative digits = if is_numeral 10 digits then Some (neg_ℤ (pos (decimal_value digits))) else None

abbrev pub hexadecimal : List ℕ → Option ℤ
hexadecimal digits = if is_numeral 16 digits && nat_le (length digits) 8 then Some (pos (hex_value digits)) else None

-- `-` stands in front
abbrev pub has_minus : List ℕ → Bool
has_minus word = slice_index word 0 == 45

-- `0x` stands in front
abbrev pub has_prefix : List ℕ → Bool
has_prefix word = slice_index word 0 == 48 && (slice_index word 1 == 120)

-- decimal digits with or without a minus sign, or `0x` and one to eight hexadecimal digits
unfoldable pub number_of : List ℕ → Option ℤ
number_of word =
    if has_minus word then negative (drop 1 word)
    else (if has_prefix word then hexadecimal (drop 2 word)
    else positive word)
