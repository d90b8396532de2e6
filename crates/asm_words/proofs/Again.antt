-- What is spelled is read back.
use Rattle.std.proofs.Common.{◌≡◌, ℕ, zero, suc, ◌+◌, ◌^◌, ◌<◌, ◌≤◌, min, Bool, true, false, IsTrue, ◌&&◌, ltb, eqb, nat_lt, ℤ, pos, negsuc, neg_ℤ, unsigned_abs, length, slice_index, decimal, drop, List, [], ◌∷◌, Option, Some, None, if◌then◌else◌, refl, ap, sym, ◌∙◌, arith, inl, inr, eq-or-lt_of_le, le_of_suc-le-suc, eqb-true}
use Rattle.std.specs.List.{list_all}
use Rattle.std.specs.Fmt.{signed_decimal}
use Rattle.std.specs.Char.{digit_value}
use Rattle.std.specs.Str.Parse.{AllDigits, digits_value}
use Rattle.std.proofs.lemmas.Bool.Decides.{nat_tests}
use Rattle.std.proofs.lemmas.Fmt.{decimal_is_IsNumeral}
use Rattle.std.proofs.lemmas.Int.{ints}
use Rattle.rv32_text.specs.Names.{register, fence_set}
use Rattle.asm_words.specs.Mnemonics.{is_used, mnemonic_of, spelled, single_of, branch_of, load_of, store_of, immediate_of, operation_of, prefetch_of, labelled_of, atomic_of}
use Rattle.asm_words.specs.Numbers.{is_digit, is_numeral, capped, decimal_value, has_minus, has_prefix, positive, negative, hexadecimal, number_of}
use Rattle.asm_words.specs.Tables.{found_below, register_of, fence_set_of}
use Rattle.asm_words.specs.declared.mnemonic.Mnemonic.{Mnemonic}

and_false : (a b : Bool) → b ≡ false → a && b ≡ false
and_false true b e = e
and_false false b e = refl

all_digits : (ds : List ℕ) → AllDigits 10 ds → list_all (is_digit 10) ds ≡ true
all_digits [] all = refl
all_digits (c ∷ cs) all = let more = all_digits cs all.1 in grind (arith, nat_tests)

no_minus : (ds : List ℕ) → AllDigits 10 ds → has_minus ds ≡ false
no_minus [] all = refl
no_minus (c ∷ cs) all = grind (arith, nat_tests)

not_x : (d : ℕ) → digit_value d < 10 → eqb d 120 ≡ false
not_x d small = grind (arith, nat_tests)

no_prefix : (ds : List ℕ) → AllDigits 10 ds → has_prefix ds ≡ false
no_prefix [] all = refl
no_prefix (c ∷ []) all = and_false (eqb c 48) _ refl
no_prefix (c ∷ d ∷ cs) all = and_false (eqb c 48) (eqb d 120) (not_x d all.1.0)

numeral : (n : ℕ) → n < 2 ^ 64 → is_numeral 10 (decimal n) ≡ true
unfolding is_numeral
numeral n small =
    let is = decimal_is_IsNumeral n small in
    let all = all_digits (decimal n) is.0.1 in
    grind (arith, nat_tests, is.0.0)

value_again : (n : ℕ) → n < 2 ^ 33 → decimal_value (decimal n) ≡ n
unfolding decimal_value
value_again n small =
    let is = decimal_is_IsNumeral n (omega arith) in
    omega (arith, is.1)

positive_again : (n : ℕ) → n < 2 ^ 33 → number_of (decimal n) ≡ Some (pos n)
unfolding number_of
positive_again n small =
    let is = decimal_is_IsNumeral n (omega arith) in
    rw (no_minus (decimal n) is.0.1, no_prefix (decimal n) is.0.1, numeral n (omega arith), value_again n small) refl

negative_again : (n : ℕ) → n < 2 ^ 33 → number_of (45 ∷ decimal n) ≡ Some (neg_ℤ (pos n))
unfolding number_of
negative_again n small = rw (numeral n (omega arith), value_again n small) refl

pub numbers_again : (z : ℤ) → unsigned_abs z < 2 ^ 33 → number_of (signed_decimal z) ≡ Some z
numbers_again (pos n) small = positive_again n (omega (arith, ints))
numbers_again (negsuc n) small = negative_again (suc n) (omega (arith, ints))

-- a test that passes at each number below a limit
abbrev pub passes_below : (ℕ → Bool) → ℕ → Bool
passes_below test zero = true
passes_below test (suc n) = test n && passes_below test n

first_of_both : (a b : Bool) → a && b ≡ true → a ≡ true
first_of_both true b e = refl
first_of_both false b e = absurd (cc)

second_of_both : (a b : Bool) → a && b ≡ true → b ≡ true
second_of_both true b e = e
second_of_both false b e = absurd (cc)

pub passes : (test : ℕ → Bool) (limit : ℕ) → passes_below test limit ≡ true → (n : ℕ) → n < limit → test n ≡ true
passes test zero all n below = absurd (omega arith)
passes test (suc limit) all n below =
    elim (eq-or-lt_of_le (le_of_suc-le-suc below)) [
      | inl last ↦ ap test last ∙ first_of_both (test limit) (passes_below test limit) all
      | inr lower ↦ passes test limit (second_of_both (test limit) (passes_below test limit) all) n lower
    ]

-- a number that was found
abbrev is_found : Option ℕ → ℕ → Bool
is_found (Some m) n = eqb m n
is_found None n = false

found : (o : Option ℕ) (n : ℕ) → is_found o n ≡ true → o ≡ Some n
found (Some m) n e = ap Some (eqb-true m n e)
found None n e = absurd (cc)

pub registers_again : (n : ℕ) → n < 32 → register_of (register n) ≡ Some n
unfolding register_of register found_below
registers_again n below = found _ n (passes (λ k. is_found (register_of (register k)) k) 32 refl n below)

pub fence_sets_again : (n : ℕ) → n < 16 → fence_set_of (fence_set n) ≡ Some n
unfolding fence_set_of fence_set found_below
fence_sets_again n below = found _ n (passes (λ k. is_found (fence_set_of (fence_set k)) k) 16 refl n below)

pub mnemonics_again : (m : Mnemonic) → IsTrue (is_used m) → mnemonic_of (spelled m) ≡ Some m
unfolding mnemonic_of single_of branch_of load_of store_of immediate_of operation_of prefetch_of labelled_of atomic_of
mnemonics_again m used = grind arith
