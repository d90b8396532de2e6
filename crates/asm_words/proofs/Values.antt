-- The values of digits, one digit more at a time.
use Rattle.std.proofs.Common.{◌≡◌, ℕ, ◌+◌, ◌*◌, ◌^◌, ◌<◌, ◌≤◌, List, take, length, get_or, min, arith, ap, ◌∙◌}
use Rattle.std.specs.Char.{digit_value}
use Rattle.std.specs.Str.Parse.{digits_value}
use Rattle.std.proofs.lemmas.Int.Digits.{digits_value_more}
use Rattle.asm_words.specs.Numbers.{capped, decimal_value, hex_value}

step10 : (v w d : ℕ) → w ≡ v * 10 + d → min w (2 ^ 33) ≡ min (min v (2 ^ 33) * 10 + d) (2 ^ 33)
step10 v w d e = omega arith

step16 : (v w d : ℕ) → w ≡ v * 16 + d → min w (2 ^ 33) ≡ min (min v (2 ^ 33) * 16 + d) (2 ^ 33)
step16 v w d e = omega arith

pub decimal_more : (ds : List ℕ) (i : ℕ) → i < length ds
    → decimal_value (take (i + 1) ds) ≡ min (decimal_value (take i ds) * 10 + digit_value (get_or ds i 0)) (2 ^ 33)
unfolding decimal_value
decimal_more ds i in_range = step10 _ _ _ (digits_value_more 10 ds i in_range)

pub hex_more : (ds : List ℕ) (i : ℕ) → i < length ds
    → hex_value (take (i + 1) ds) ≡ min (hex_value (take i ds) * 16 + digit_value (get_or ds i 0)) (2 ^ 33)
unfolding hex_value
hex_more ds i in_range = step16 _ _ _ (digits_value_more 16 ds i in_range)

pub decimal_small : (ds : List ℕ) → decimal_value ds ≤ 2 ^ 33
unfolding decimal_value
decimal_small ds = let v = digits_value 10 ds in omega arith

pub hex_small : (ds : List ℕ) → hex_value ds ≤ 2 ^ 33
unfolding hex_value
hex_small ds = let v = digits_value 16 ds in omega arith
