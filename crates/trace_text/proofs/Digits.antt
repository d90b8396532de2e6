-- Numbers are read back from their digits.
use Rattle.std.proofs.Common.{◌≡◌, ℕ, zero, suc, ◌+◌, ◌-◌, ◌*◌, ◌%◌, ◌^◌, ◌<◌, ◌≤◌, Bool, true, false, not, ◌&&◌, nat_le, nat_eq, replicate, length, take, get_or, List, [], ◌∷◌, ◌++◌, Option, Some, None, codes, decimal, if◌then◌else◌, refl, ap, sym, ◌∙◌, arith}
use Rattle.std.specs.Char.{digit_value}
use Rattle.std.specs.Fmt.{digits, padded_integral, format_spec, number_padding}
use Rattle.std.specs.Str.{bytes_eq}
use Rattle.std.specs.Str.Parse.{digits_value, AllDigits}
use Rattle.std.proofs.lemmas.Bool.Decides.{nat_tests}
use Rattle.std.proofs.lemmas.Fmt.{decimal_is_IsNumeral, digits_is_IsNumeral}
use Rattle.std.proofs.lemmas.Int.Digits.{digits_value_more}
use Rattle.std.proofs.lemmas.Nat.{mul-mod_first}
use Rattle.std.proofs.Math.Nat.{add-mod, mod-add-mod, mod-eq_of_lt}
use Rattle.trace_text.specs.Fits.{IsShort, IsLong, IsShortIfAny}
use Rattle.trace_text.specs.Spelling.{hex, hex_byte, word_text, number_text}
use Rattle.trace_text.specs.Values.{value_of, number_of, hex_of, content_of, slot_of}
use Rattle.trace_text.proofs.Cuts.{is_word}

-- a digit more, of which the low bits are kept
kept : (a r d m : ℕ) → ((a % m * r) % m + d) % m ≡ (a * r + d) % m
kept a r d m =
    mod-add-mod (a % m * r) m d
    ∙ (add-mod (a % m * r) d m ∙ ap (λ n. (n + d % m) % m) (mul-mod_first a r m) ∙ sym (add-mod (a * r) d m))

pub value_more : (radix : ℕ) (bs : List ℕ) (i : ℕ) → i < length bs
    → (value_of radix (take i bs) * radix % 2 ^ 64 + digit_value (get_or bs i 0)) % 2 ^ 64 ≡ value_of radix (take (i + 1) bs)
unfolding value_of
value_more radix bs i below =
    kept (digits_value radix (take i bs)) radix (digit_value (get_or bs i 0)) (2 ^ 64)
    ∙ ap (λ n. n % 2 ^ 64) (sym (digits_value_more radix bs i below))

-- no byte is below the digits, as spaces and minus signs are
unfoldable pub is_plain : List ℕ → Bool
is_plain [] = true
is_plain (c ∷ cs) = nat_le 48 c && is_plain cs

both : (a b : Bool) → a ≡ true → b ≡ true → a && b ≡ true
both true b left right = right
both false b left right = absurd (cc)

left_of : (a b : Bool) → a && b ≡ true → a ≡ true
left_of true b e = refl
left_of false b e = absurd (cc)

right_of : (a b : Bool) → a && b ≡ true → b ≡ true
right_of true b e = e
right_of false b e = absurd (cc)

digit_plain : (c radix : ℕ) → radix ≤ 36 → digit_value c < radix → nat_le 48 c ≡ true
digit_plain c radix most is_small = grind (arith, nat_tests)

digits_plain : (radix : ℕ) (ds : List ℕ) → radix ≤ 36 → AllDigits radix ds → is_plain ds ≡ true
unfolding is_plain
digits_plain radix [] most all = refl
digits_plain radix (c ∷ cs) most all = both _ _ (digit_plain c radix most all.0) (digits_plain radix cs most all.1)

no_mark_so_high : (c : ℕ) → nat_le 48 c ≡ true → not (nat_le c 32) ≡ true
no_mark_so_high c high = grind (arith, nat_tests)

no_dash_so_high : (c : ℕ) (b : Bool) → nat_le 48 c ≡ true → nat_eq c 45 && b ≡ false
no_dash_so_high c b high = grind (arith, nat_tests)

pub plain_word : (w : List ℕ) → is_plain w ≡ true → is_word w ≡ true
unfolding is_plain is_word
plain_word [] plain = refl
plain_word (c ∷ cs) plain =
    both _ _ (no_mark_so_high c (left_of _ _ plain)) (plain_word cs (right_of (nat_le 48 c) _ plain))

no_dash : (w : List ℕ) → is_plain w ≡ true → bytes_eq w (codes "-") ≡ false
unfolding is_plain
no_dash [] plain = refl
no_dash (c ∷ cs) plain = no_dash_so_high c _ (left_of _ _ plain)

-- decimal numbers
decimal_plain : (n : ℕ) → IsLong n → is_plain (decimal n) ≡ true
decimal_plain n fits = digits_plain 10 (decimal n) (omega arith) ((decimal_is_IsNumeral n fits).0).1

pub decimal_word : (n : ℕ) → IsLong n → is_word (decimal n) ≡ true
decimal_word n fits = plain_word (decimal n) (decimal_plain n fits)

pub short_word : (n : ℕ) → IsShort n → is_word (decimal n) ≡ true
short_word n fits = decimal_word n (omega arith)

pub long_again : (n : ℕ) → IsLong n → value_of 10 (decimal n) ≡ n
unfolding value_of
long_again n fits = ap (λ k. k % 2 ^ 64) ((decimal_is_IsNumeral n fits).1) ∙ mod-eq_of_lt fits

pub short_again : (n : ℕ) → IsShort n → number_of (decimal n) ≡ n
short_again n fits = ap (λ k. k % 2 ^ 32) (long_again n (omega arith)) ∙ mod-eq_of_lt fits

-- hexadecimal numbers, which may have zeros in front
closed : (ds : List ℕ) → ds ++ [] ≡ ds
closed [] = refl
closed (d ∷ ds) = ap (λ r. d ∷ r) (closed ds)

zeros_plain : (k : ℕ) (ds : List ℕ) → is_plain ds ≡ true → is_plain (replicate k 48 ++ (ds ++ [])) ≡ true
unfolding is_plain
zeros_plain zero ds plain = ap is_plain (closed ds) ∙ plain
zeros_plain (suc k) ds plain = zeros_plain k ds plain

zeros_value : (k : ℕ) (ds : List ℕ) → digits_value 16 (replicate k 48 ++ (ds ++ [])) ≡ digits_value 16 ds
zeros_value zero ds = ap (digits_value 16) (closed ds)
zeros_value (suc k) ds = zeros_value k ds

small_enough : (n : ℕ) → IsShort n → n < 16 ^ 64
small_enough n fits = omega arith

bare_plain : (n : ℕ) → IsShort n → is_plain (digits 16 false n) ≡ true
bare_plain n fits =
    digits_plain 16 (digits 16 false n) (omega arith) ((digits_is_IsNumeral 16 false (omega arith) (omega arith) n (small_enough n fits)).0).1

bare_value : (n : ℕ) → IsShort n → digits_value 16 (digits 16 false n) ≡ n
bare_value n fits = (digits_is_IsNumeral 16 false (omega arith) (omega arith) n (small_enough n fits)).1

hex_plain : (n : ℕ) → IsShort n → is_plain (hex n) ≡ true
unfolding hex padded_integral
hex_plain n fits = zeros_plain _ (digits 16 false n) (bare_plain n fits)

pub hex_word : (n : ℕ) → IsShort n → is_word (hex n) ≡ true
hex_word n fits = plain_word (hex n) (hex_plain n fits)

low : (n k : ℕ) → IsShort n → k ≡ n → k % 2 ^ 64 % 2 ^ 32 ≡ n
low n k fits is = omega arith

pub hex_again : (n : ℕ) → IsShort n → hex_of (hex n) ≡ n
unfolding hex padded_integral value_of
hex_again n fits =
    let zeros = number_padding (format_spec 32 0 4 8 (2 ^ 64 - 1)) false [] (length (digits 16 false n)) in
    low n _ fits (zeros_value zeros (digits 16 false n) ∙ bare_value n fits)

pub byte_word : (n : ℕ) → n < 256 → is_word (hex_byte n) ≡ true
unfolding hex_byte padded_integral
byte_word n fits = plain_word _ (zeros_plain _ (digits 16 false n) (bare_plain n (omega arith)))

pub byte_again : (n : ℕ) → n < 256 → hex_of (hex_byte n) % 256 ≡ n
unfolding hex_byte padded_integral value_of
byte_again n fits =
    let zeros = number_padding (format_spec 32 0 4 2 (2 ^ 64 - 1)) false [] (length (digits 16 false n)) in
    ap (λ k. k % 256) (low n _ (omega arith) (zeros_value zeros (digits 16 false n) ∙ bare_value n (omega arith))) ∙ mod-eq_of_lt fits

pub mask_word : (n : ℕ) → n < 16 → is_word (digits 16 false n) ≡ true
mask_word n fits = plain_word _ (bare_plain n (omega arith))

pub mask_again : (n : ℕ) → n < 16 → hex_of (digits 16 false n) % 16 ≡ n
unfolding value_of
mask_again n fits = ap (λ k. k % 16) (low n _ (omega arith) (bare_value n (omega arith))) ∙ mod-eq_of_lt fits

-- what may be a dash
pub content_word : (o : Option ℕ) → IsShortIfAny o → is_word (word_text o) ≡ true
unfolding is_word
content_word (Some n) fits = hex_word n fits
content_word None fits = refl

pub content_again : (o : Option ℕ) → IsShortIfAny o → content_of (word_text o) ≡ o
unfolding content_of
content_again (Some n) fits =
    ap (λ b. if b then None else Some (hex_of (hex n))) (no_dash (hex n) (hex_plain n fits)) ∙ ap Some (hex_again n fits)
content_again None fits = refl

pub slot_word : (o : Option ℕ) → IsShortIfAny o → is_word (number_text o) ≡ true
unfolding is_word
slot_word (Some n) fits = short_word n fits
slot_word None fits = refl

pub slot_again : (o : Option ℕ) → IsShortIfAny o → slot_of (number_text o) ≡ o
unfolding slot_of
slot_again (Some n) fits =
    ap (λ b. if b then None else Some (number_of (decimal n))) (no_dash (decimal n) (decimal_plain n (omega arith)))
    ∙ ap Some (short_again n fits)
slot_again None fits = refl
