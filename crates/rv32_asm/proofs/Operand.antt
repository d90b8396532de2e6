-- The spelling of each instruction is read as its word.
use Rattle.std.proofs.Common.{◌≡◌, ℕ, suc, ◌+◌, ◌-◌, ◌*◌, ◌/◌, ◌%◌, ◌^◌, ◌<◌, ◌≤◌, Bool, true, false, IsTrue, ◌&&◌, ltb, ℤ, pos, negsuc, neg_ℤ, ◌+ℤ◌, unsigned_abs, length, slice_index, codes, List, [], ◌∷◌, ◌++◌, Option, Some, None, Result, Ok, Err, if◌then◌else◌, decimal, refl, ap, sym, subst, ◌∙◌, append_assoc, arith}
use Rattle.std.specs.Fmt.{signed_decimal}
use Rattle.std.specs.List.{list_all}
use Rattle.std.specs.Str.Parse.{AllDigits}
use Rattle.std.proofs.lemmas.Bool.Decides.{nat_tests}
use Rattle.std.proofs.lemmas.Fmt.{decimal_is_IsNumeral, decimal_nonempty}
use Rattle.std.proofs.lemmas.Bool.{ltb-true}
use Rattle.std.proofs.lemmas.Int.{ints}
use Rattle.dash_base.specs.Ranges.{FitsBits, FitsOffset, FitsImmediate}
use Rattle.dash_base.specs.declared.instr.Labels.{Labels}
use Rattle.dash_base.specs.declared.ops.AluOp.{AluOp}
use Rattle.rv32_decode.specs.Layout.{in_bits, u_type, j_type, i_type, b_type, s_type, r_type, branch_funct3, load_funct3, store_funct3, alu_funct3, alu_funct7, immediate_bits}
use Rattle.rv32_text.specs.Names.{register, fence_set}
use Rattle.rv32_text.proofs.Pieces.{decimal_word, number_word, register_word, set_word}
use Rattle.rv32_text.proofs.Words.{is_word}
use Rattle.asm_words.specs.Cuts.{is_mark, is_solid}
use Rattle.asm_words.specs.Mnemonics.{is_used, spelled}
use Rattle.asm_words.specs.Names.{is_name, starts_name}
use Rattle.asm_words.specs.Operands.{comma}
use Rattle.asm_words.specs.Tables.{fence_set_of}
use Rattle.asm_words.specs.declared.mnemonic.Mnemonic.{Mnemonic}
use Rattle.asm_words.specs.declared.operands.Operands.TheVariants.{One, Two, Three}
use Rattle.asm_words.proofs.Again.{fence_sets_again, passes}
use Rattle.asm_words.proofs.Texts.{Solid, free, free_append, free_word, no_comma, no_hash, one_operand, solid_append, solid_byte, solid_joined, solid_word, three_operands, two_operands}
use Rattle.rv32_asm.specs.Fields.{fits, worst}
use Rattle.rv32_asm.specs.Lines.{reading}
use Rattle.rv32_asm.specs.Rows.{Reading, row_of}
use Rattle.rv32_asm.proofs.Spelled.{line_reads}
use lib.Signed.{mag}

-- what can stand between commas
pub record IsOperand (w : List ℕ) : Type 0 where
  pub solid : Solid w
  pub commaless : free comma w ≡ true
  pub hashless : free (is_mark 35) w ≡ true

word_operand : (w : List ℕ) → is_word w ≡ true → 0 < length w → IsOperand w
word_operand w word some = record { solid = solid_word w word some; commaless = free_word comma no_comma w word; hashless = free_word (is_mark 35) no_hash w word }

register_some : (n : ℕ) → n < 32 → 0 < length (register n)
unfolding register
register_some n below = ltb-true 0 (length (register n)) (passes (λ k. ltb 0 (length (register k))) 32 refl n below)

pub register_operand : (n : ℕ) → n < 32 → IsOperand (register n)
register_operand n below = word_operand (register n) (register_word n below) (register_some n below)

set_some : (n : ℕ) → n < 16 → 0 < length (fence_set n)
unfolding fence_set
set_some n below = ltb-true 0 (length (fence_set n)) (passes (λ k. ltb 0 (length (fence_set k))) 16 refl n below)

pub set_operand : (n : ℕ) → n < 16 → IsOperand (fence_set n)
set_operand n below = word_operand (fence_set n) (set_word n below) (set_some n below)

number_some : (z : ℤ) → unsigned_abs z < 2 ^ 33 → 0 < length (signed_decimal z)
number_some (pos n) small = decimal_nonempty n (omega (arith, ints))
number_some (negsuc n) small = omega arith

mag_small : (z : ℤ) → unsigned_abs z < 2 ^ 33 → mag z < 2 ^ 63
mag_small (pos n) small = omega (arith, ints)
mag_small (negsuc n) small = omega (arith, ints)

pub small_word : (z : ℤ) → unsigned_abs z < 2 ^ 33 → is_word (signed_decimal z) ≡ true
small_word z small = number_word z (mag_small z small)

pub number_operand : (z : ℤ) → unsigned_abs z < 2 ^ 33 → IsOperand (signed_decimal z)
number_operand z small = word_operand (signed_decimal z) (small_word z small) (number_some z small)

pub place_operand : (z : ℤ) (base : ℕ) → unsigned_abs z < 2 ^ 33 → base < 32 → IsOperand (signed_decimal z ++ 40 ∷ (register base ++ 41 ∷ []))
place_operand z base small below =
    let n = number_operand z small in
    let r = register_operand base below in
    record {
      solid = solid_joined (signed_decimal z) 40 (register base ++ 41 ∷ []) n.solid (solid_append (register base) (41 ∷ []) r.solid (solid_byte 41 refl));
      commaless = free_append comma (signed_decimal z) (40 ∷ (register base ++ 41 ∷ [])) n.commaless (free_append comma (register base) (41 ∷ []) r.commaless refl);
      hashless = free_append (is_mark 35) (signed_decimal z) (40 ∷ (register base ++ 41 ∷ [])) n.hashless (free_append (is_mark 35) (register base) (41 ∷ []) r.hashless refl);
    }

pub bare_operand : (n : ℕ) → n < 32 → IsOperand (40 ∷ (register n ++ 41 ∷ []))
bare_operand n below =
    let r = register_operand n below in
    record {
      solid = solid_append (40 ∷ []) (register n ++ 41 ∷ []) (solid_byte 40 refl) (solid_append (register n) (41 ∷ []) r.solid (solid_byte 41 refl));
      commaless = free_append comma (register n) (41 ∷ []) r.commaless refl;
      hashless = free_append (is_mark 35) (register n) (41 ∷ []) r.hashless refl;
    }

pub one_line : (m : Mnemonic) (a : List ℕ) → IsTrue (is_used m) → IsOperand a → reading (spelled m ++ 32 ∷ a) ≡ row_of m (One a)
one_line m a used is_a = line_reads m a (One a) used is_a.solid is_a.hashless (one_operand a is_a.solid is_a.commaless)

pub two_line : (m : Mnemonic) (a b : List ℕ) → IsTrue (is_used m) → IsOperand a → IsOperand b → reading (spelled m ++ 32 ∷ (a ++ 44 ∷ b)) ≡ row_of m (Two a b)
two_line m a b used is_a is_b =
    line_reads m (a ++ 44 ∷ b) (Two a b) used (solid_joined a 44 b is_a.solid is_b.solid)
    (free_append (is_mark 35) a (44 ∷ b) is_a.hashless is_b.hashless)
    (two_operands a b is_a.solid is_b.solid is_a.commaless is_b.commaless)

pub three_line : (m : Mnemonic) (a b c : List ℕ) → IsTrue (is_used m) → IsOperand a → IsOperand b → IsOperand c
    → reading (spelled m ++ 32 ∷ (a ++ 44 ∷ (b ++ 44 ∷ c))) ≡ row_of m (Three a b c)
three_line m a b c used is_a is_b is_c =
    line_reads m (a ++ 44 ∷ (b ++ 44 ∷ c)) (Three a b c) used (solid_joined a 44 (b ++ 44 ∷ c) is_a.solid (solid_joined b 44 c is_b.solid is_c.solid))
    (free_append (is_mark 35) a (44 ∷ (b ++ 44 ∷ c)) is_a.hashless (free_append (is_mark 35) b (44 ∷ c) is_b.hashless is_c.hashless))
    (three_operands a b c is_a.solid is_b.solid is_c.solid is_a.commaless is_b.commaless is_c.commaless)

no_digit_name : (ds : List ℕ) → AllDigits 10 ds → starts_name (slice_index ds 0) ≡ false
no_digit_name [] all = refl
no_digit_name (c ∷ cs) all = grind (arith, nat_tests)

false_and : (a b c : Bool) → a ≡ false → (a && b) && c ≡ false
false_and a b c e = ap (λ x. (x && b) && c) e

-- a number is no name
pub number_no_name : (z : ℤ) → unsigned_abs z < 2 ^ 33 → is_name (signed_decimal z) ≡ false
unfolding is_name
number_no_name (pos n) small =
    let is = decimal_is_IsNumeral n (omega (arith, ints)) in
    false_and _ _ _ (no_digit_name (decimal n) is.0.1)
number_no_name (negsuc n) small = refl
