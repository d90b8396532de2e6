-- The fields of a spelling are read as what was spelled.
use Rattle.std.proofs.Common.{◌≡◌, ℕ, ◌+◌, ◌-◌, ◌%◌, ◌^◌, ◌<◌, ◌≤◌, Bool, true, false, IsTrue, ℤ, pos, neg_ℤ, ◌≤ℤ◌, unsigned_abs, length, codes, List, [], ◌∷◌, ◌++◌, Option, Some, None, Result, Ok, Err, if◌then◌else◌, decimal, refl, ap, sym, ◌∙◌, append_assoc, arith}
use Rattle.std.specs.Fmt.{signed_decimal}
use Rattle.std.proofs.lemmas.Bool.Decides.{nat_tests}
use Rattle.std.proofs.lemmas.Int.{ints}
use Rattle.dash_base.specs.Ranges.{FitsBits, FitsOffset, FitsImmediate}
use Rattle.dash_base.specs.declared.ops.AluOp.{AluOp}
use Rattle.rv32_text.specs.Names.{register}
use Rattle.rv32_text.specs.Text.{place}
use Rattle.asm_words.specs.Cuts.{is_mark, is_blank}
use Rattle.asm_words.specs.Mnemonics.{is_used, mnemonic_of, spelled}
use Rattle.asm_words.specs.Operands.{keyword_of, listed_in, operands_of, statement_of, comma}
use Rattle.asm_words.specs.declared.mnemonic.Mnemonic.{Mnemonic}
use Rattle.asm_words.specs.declared.operands.Operands.{Operands}
use Rattle.asm_words.specs.declared.operands.Operands.TheVariants.{Nothing}
use Rattle.asm_words.proofs.Again.{mnemonics_again, numbers_again, registers_again}
use Rattle.asm_words.proofs.Texts.{Solid, free, free_append, free_word, keyword_alone, keyword_is, listed_alone, listed_is, no_blank, no_comma, no_hash, no_paren, place_is, solid_joined, solid_word, statement_is}
use Rattle.rv32_text.proofs.Words.{is_word}
use Rattle.rv32_asm.specs.Fields.{bare_field, bare_or, fits, number_field, number_or, place_field, place_or, register_field, register_or, worst}
use Rattle.rv32_asm.specs.declared.refusal.AsmCause.TheVariants.{Immediate}
use Rattle.rv32_asm.specs.Lines.{reading, reading_of_statement, row_or}
use Rattle.rv32_asm.specs.Rows.{Reading, row_of, least_of, greatest_of}

pub register_reads : (n : ℕ) → n < 32 → register_field (register n) ≡ record { register = n; fault = None }
unfolding register_field
register_reads n below = ap (λ o. register_or o (register n)) (registers_again n below)

pub number_reads : (least greatest : ℤ) (step : ℕ) (z : ℤ) → unsigned_abs z < 2 ^ 33 → fits least greatest step z ≡ true
    → number_field least greatest step (signed_decimal z) ≡ record { value = z; fault = None }
unfolding number_field
number_reads least greatest step z small fit =
    ap (number_or least greatest step) (numbers_again z small)
    ∙ ap (λ b. if b then record { value = z; fault = None } else record { value = pos 0; fault = Some Immediate }) fit

pub place_reads : (least greatest : ℤ) (step : ℕ) (z : ℤ) (base : ℕ) → unsigned_abs z < 2 ^ 33 → base < 32 → fits least greatest step z ≡ true → is_word (signed_decimal z) ≡ true
    → place_field least greatest step (signed_decimal z ++ 40 ∷ (register base ++ 41 ∷ [])) ≡ record { offset = z; base = base; fault = None }
unfolding place_field
place_reads least greatest step z base small below fit word =
    ap (place_or least greatest step) (place_is (signed_decimal z) (register base) (free_word (is_mark 40) no_paren _ word))
    ∙ rw (number_reads least greatest step z small fit, register_reads base below) refl

pub bare_reads : (n : ℕ) → n < 32 → bare_field (40 ∷ (register n ++ 41 ∷ [])) ≡ record { register = n; fault = None }
unfolding bare_field
bare_reads n below = ap bare_or (place_is [] (register n) refl) ∙ register_reads n below

pub fits_bits : (z : ℤ) → FitsBits 12 z → fits (neg_ℤ (pos 2048)) (pos 2047) 1 z ≡ true
fits_bits z h = let low = h.low in let high = h.high in grind (arith, ints, nat_tests)

pub fits_branch : (z : ℤ) → FitsOffset 13 z → fits (neg_ℤ (pos 4096)) (pos 4094) 2 z ≡ true
fits_branch z h = let low = h.fits.low in let high = h.fits.high in let even = h.even in grind (arith, ints, nat_tests)

pub fits_jump : (z : ℤ) → FitsOffset 21 z → fits (neg_ℤ (pos 1048576)) (pos 1048574) 2 z ≡ true
fits_jump z h = let low = h.fits.low in let high = h.fits.high in let even = h.even in grind (arith, ints, nat_tests)

pub fits_alu : (op : AluOp) (z : ℤ) → FitsImmediate op z → fits (least_of op) (greatest_of op) 1 z ≡ true
fits_alu op z h = let low = h.low in let high = h.high in grind (arith, ints, nat_tests)

-- a mnemonic is a word
record IsSpelled (m : Mnemonic) : Type 0 where
  word : is_word (spelled m) ≡ true
  some : 0 < length (spelled m)

is_spelled : (m : Mnemonic) → IsTrue (is_used m) → IsSpelled m
unfolding is_word
is_spelled m used = record { word = grind arith; some = grind arith }

nonblank : (t : List ℕ) → Solid t → reading_of_statement t ≡ row_or (mnemonic_of (keyword_of t)) (keyword_of t) (listed_in t)
nonblank [] s = absurd (let e : [] ≡ s.first ∷ s.rest = s.begin_is in cc)
nonblank (c ∷ cs) s = refl

row_is : (m : Mnemonic) (used : IsTrue (is_used m)) (k : List ℕ) (o p : Operands) → k ≡ spelled m → o ≡ p → row_or (mnemonic_of k) k o ≡ row_of m p
row_is m used k o p name operands =
    ap (λ xs. row_or (mnemonic_of xs) xs o) name
    ∙ ap (λ found. row_or found (spelled m) o) (mnemonics_again m used)
    ∙ ap (row_of m) operands

-- a line of a mnemonic and operands
pub line_reads : (m : Mnemonic) (ops : List ℕ) (o : Operands) → IsTrue (is_used m) → Solid ops → free (is_mark 35) ops ≡ true → operands_of ops ≡ o
    → reading (spelled m ++ 32 ∷ ops) ≡ row_of m o
unfolding reading
line_reads m ops o used s f operands =
    let is = is_spelled m used in
    let name = is.word in
    let whole = solid_joined (spelled m) 32 ops (solid_word (spelled m) name is.some) s in
    let hashless = free_append (is_mark 35) (spelled m) (32 ∷ ops) (free_word (is_mark 35) no_hash _ name) f in
    let blankless = free_word is_blank no_blank _ name in
    ap reading_of_statement (statement_is _ whole hashless)
    ∙ nonblank _ whole
    ∙ row_is m used _ _ o (keyword_is (spelled m) ops blankless) (listed_is (spelled m) ops blankless s ∙ operands)

-- a line of a mnemonic alone
pub alone_reads : (m : Mnemonic) → IsTrue (is_used m) → reading (spelled m) ≡ row_of m Nothing
unfolding reading
alone_reads m used =
    let is = is_spelled m used in
    let name = is.word in
    let whole = solid_word (spelled m) name is.some in
    let blankless = free_word is_blank no_blank _ name in
    ap reading_of_statement (statement_is _ whole (free_word (is_mark 35) no_hash _ name))
    ∙ nonblank _ whole
    ∙ row_is m used _ _ Nothing (keyword_alone (spelled m) blankless) (listed_alone (spelled m) blankless)
