-- The words of a spelling are its mnemonic and its operands.
use Rattle.std.proofs.Common.{◌≡◌, true, ℕ, ◌/◌, ◌^◌, ◌<◌, ℤ, List, [], ◌∷◌, ◌++◌, Option, Some, None, codes, decimal, refl, ap, ◌∙◌, append_assoc, arith, div-le_self}
use Rattle.std.specs.Fmt.{signed_decimal}
use Rattle.dash_base.specs.declared.instr.Amo.{Amo}
use Rattle.dash_base.specs.declared.instr.Instr.{Instr}
use Rattle.dash_base.specs.declared.instr.Instr.TheVariants as instr
use Rattle.dash_base.specs.declared.instr.OpImm.{OpImm}
use Rattle.dash_base.specs.declared.ops.AmoOp.{AmoOp}
use Rattle.dash_base.specs.declared.ops.AmoOp.TheVariants as amo
use Rattle.rv32_decode.specs.Hints.{offset_of, prefetch_kind, prefetch_of}
use Rattle.dash_base.specs.declared.need.HintKind.{HintKind}
use Rattle.rv32_text.specs.Names.{register, fence_set}
use Rattle.rv32_text.specs.Text.{place, upper_text, jal_text, place_text, number_text, registers_text, source_text, amo_text, fence_text, hint_text, hint_or, instr_text, text_of}
use Rattle.rv32_text.proofs.Mnemonics.{lui, auipc, jal, jalr, branch, load, store, immediate, registers, atomic, fence, ecall, ebreak, prefetch, mnemonic_word, spelled}
use Rattle.rv32_text.proofs.Numbers.{small_bits, small_immediate, small_offset}
use Rattle.rv32_text.proofs.Operands.{base_words, immediate_mnemonic, immediate_operands, mnemonic_of, operands_of, with_source}
use Rattle.rv32_text.proofs.Pieces.{decimal_word, number_word, register_word, set_word}
use Rattle.rv32_text.proofs.Words.{is_mark, is_word, word_alone, word_then, words}
use lib.Signed.{mag}

-- a word and a mark in front of other words
then : (w : List ℕ) (mark : ℕ) (rest : List ℕ) (ws : List (List ℕ)) → is_mark mark ≡ true → is_word w ≡ true
    → words rest ≡ ws → words (w ++ mark ∷ rest) ≡ w ∷ ws
then w mark rest ws ends word others = word_then w mark rest word ends ∙ ap (λ vs. w ∷ vs) others

-- nothing behind the last mark
closed : words [] ≡ [] ∷ []
unfolding words
closed = refl

empty_word : is_word [] ≡ true
unfolding is_word
empty_word = refl

-- a name and a space in front of other words
named : (name rest : List ℕ) (ws : List (List ℕ)) → is_word name ≡ true → words rest ≡ ws
    → words (name ++ 32 ∷ rest) ≡ name ∷ ws
named name rest ws word others = then name 32 rest ws refl word others

-- a register and a comma in front of other words
listed : (n : ℕ) (rest : List ℕ) (ws : List (List ℕ)) → n < 32 → words rest ≡ ws
    → words (register n ++ 44 ∷ rest) ≡ register n ∷ ws
listed n rest ws in_range others = then (register n) 44 rest ws refl (register_word n in_range) others

-- a register and the parenthesis that ends the text
last : (n : ℕ) → n < 32 → words (register n ++ 41 ∷ []) ≡ register n ∷ [] ∷ []
last n in_range = then (register n) 41 [] ([] ∷ []) refl (register_word n in_range) closed

place_words : (offset : ℤ) (base : ℕ) → mag offset < 2 ^ 63 → base < 32
    → words (place offset base) ≡ signed_decimal offset ∷ register base ∷ [] ∷ []
unfolding place
place_words offset base is_small in_range =
    simp append_assoc (then _ 40 _ _ refl (number_word offset is_small) (last base in_range))

upper_words : (name : List ℕ) (rd imm : ℕ) → is_word name ≡ true → rd < 32 → imm < 2 ^ 32
    → words (upper_text name rd imm) ≡ name ∷ register rd ∷ decimal (imm / 4096) ∷ []
unfolding upper_text
upper_words name rd imm word rd_in_range imm_in_range =
    let below = div-le_self imm 4096 in
    let number = word_alone (decimal (imm / 4096)) (decimal_word (imm / 4096) (omega arith)) in
    simp append_assoc (named _ _ _ word (listed _ _ _ rd_in_range number))

jal_words : (rd : ℕ) (offset : ℤ) → rd < 32 → mag offset < 2 ^ 63
    → words (jal_text rd offset) ≡ codes "jal" ∷ register rd ∷ signed_decimal offset ∷ []
unfolding jal_text
jal_words rd offset in_range is_small =
    let number = word_alone (signed_decimal offset) (number_word offset is_small) in
    simp append_assoc (named (codes "jal") _ _ (mnemonic_word jal refl) (listed _ _ _ in_range number))

place_text_words : (name : List ℕ) (a : ℕ) (offset : ℤ) (base : ℕ) → is_word name ≡ true → a < 32 → mag offset < 2 ^ 63 → base < 32
    → words (place_text name a offset base) ≡ name ∷ register a ∷ signed_decimal offset ∷ register base ∷ [] ∷ []
unfolding place_text
place_text_words name a offset base word a_in_range is_small base_in_range =
    simp append_assoc (named _ _ _ word (listed _ _ _ a_in_range (place_words offset base is_small base_in_range)))

number_words : (name : List ℕ) (a b : ℕ) (number : ℤ) → is_word name ≡ true → a < 32 → b < 32 → mag number < 2 ^ 63
    → words (number_text name a b number) ≡ name ∷ register a ∷ register b ∷ signed_decimal number ∷ []
unfolding number_text
number_words name a b number word a_in_range b_in_range is_small =
    let end = word_alone (signed_decimal number) (number_word number is_small) in
    simp append_assoc (named _ _ _ word (listed _ _ _ a_in_range (listed _ _ _ b_in_range end)))

registers_words : (name : List ℕ) (a b c : ℕ) → is_word name ≡ true → a < 32 → b < 32 → c < 32
    → words (registers_text name a b c) ≡ name ∷ register a ∷ register b ∷ register c ∷ []
unfolding registers_text
registers_words name a b c word a_in_range b_in_range c_in_range =
    let end = word_alone (register c) (register_word c c_in_range) in
    simp append_assoc (named _ _ _ word (listed _ _ _ a_in_range (listed _ _ _ b_in_range end)))

source_words : (op : AmoOp) (rs2 : ℕ) (rest : List ℕ) → rs2 < 32
    → words (source_text op rs2 ++ rest) ≡ with_source op rs2 (words rest)
source_words amo.Lr rs2 rest in_range = refl
source_words _ rs2 rest in_range =
    ap words (append_assoc (register rs2) (codes ",") rest) ∙ word_then (register rs2) 44 rest (register_word rs2 in_range) refl

atomic_words : (name : List ℕ) (op : AmoOp) (rd rs1 rs2 : ℕ) → is_word name ≡ true → rd < 32 → rs1 < 32 → rs2 < 32
    → words (name ++ codes " " ++ register rd ++ codes "," ++ source_text op rs2 ++ codes "(" ++ register rs1 ++ codes ")")
    ≡ name ∷ register rd ∷ with_source op rs2 (base_words rs1)
atomic_words name op rd rs1 rs2 word rd_in_range rs1_in_range rs2_in_range =
    let base = then [] 40 _ _ refl empty_word (last rs1 rs1_in_range) in
    let source = source_words op rs2 _ rs2_in_range ∙ ap (with_source op rs2) base in
    simp append_assoc (named _ _ _ word (listed _ _ _ rd_in_range source))

amo_words : (i : Amo) → words (amo_text i)
    ≡ spelled (atomic i.op i.labels.aq i.labels.rl) ∷ register i.rd ∷ with_source i.op i.rs2 (base_words i.rs1)
unfolding amo_text
amo_words i =
    atomic_words _ i.op i.rd i.rs1 i.rs2 (mnemonic_word (atomic i.op i.labels.aq i.labels.rl) refl) i.rd_in_range i.rs1_in_range i.rs2_in_range

fence_words : (pred succ : ℕ) → pred < 16 → succ < 16
    → words (fence_text pred succ) ≡ codes "fence" ∷ fence_set pred ∷ fence_set succ ∷ []
unfolding fence_text
fence_words pred succ pred_in_range succ_in_range =
    let end = word_alone (fence_set succ) (set_word succ succ_in_range) in
    let sets = then (fence_set pred) 44 _ _ refl (set_word pred pred_in_range) end in
    simp append_assoc (named (codes "fence") _ _ (mnemonic_word fence refl) sets)

-- an operation on a register and an immediate, or the prefetch that it is
immediate_words : (i : OpImm) (kind : Option HintKind)
    → words (hint_or (prefetch_of i kind) (instr_text (instr.OpImm i))) ≡ spelled (immediate_mnemonic i.op kind) ∷ immediate_operands i kind
unfolding hint_text
immediate_words i None =
    number_words _ i.rd i.rs1 i.imm (mnemonic_word (immediate i.op) i.has_form) i.rd_in_range i.rs1_in_range (small_immediate i.op i.imm i.imm_in_range)
immediate_words i (Some kind) =
    let behind = place_words (offset_of i.imm) i.rs1 (small_offset i.op i.imm i.imm_in_range) i.rs1_in_range in
    simp append_assoc (named _ _ _ (mnemonic_word (prefetch kind) refl) behind)

pub words_of : (i : Instr) → words (text_of i) ≡ spelled (mnemonic_of i) ∷ operands_of i
words_of (instr.Lui i) = upper_words _ i.rd i.imm (mnemonic_word lui refl) i.rd_in_range i.imm_in_range
words_of (instr.Auipc i) = upper_words _ i.rd i.imm (mnemonic_word auipc refl) i.rd_in_range i.imm_in_range
words_of (instr.Jal i) = jal_words i.rd i.offset i.rd_in_range (small_bits 21 i.offset (omega arith) i.offset_in_range.fits)
words_of (instr.Jalr i) =
    place_text_words _ i.rd i.offset i.rs1 (mnemonic_word jalr refl) i.rd_in_range (small_bits 12 i.offset (omega arith) i.offset_in_range) i.rs1_in_range
words_of (instr.Branch i) =
    number_words _ i.rs1 i.rs2 i.offset (mnemonic_word (branch i.op) refl) i.rs1_in_range i.rs2_in_range (small_bits 13 i.offset (omega arith) i.offset_in_range.fits)
words_of (instr.Load i) =
    place_text_words _ i.rd i.offset i.rs1 (mnemonic_word (load i.op) refl) i.rd_in_range (small_bits 12 i.offset (omega arith) i.offset_in_range) i.rs1_in_range
words_of (instr.Store i) =
    place_text_words _ i.rs2 i.offset i.rs1 (mnemonic_word (store i.op) refl) i.rs2_in_range (small_bits 12 i.offset (omega arith) i.offset_in_range) i.rs1_in_range
words_of (instr.OpImm i) = immediate_words i (prefetch_kind i)
words_of (instr.Op i) = registers_words _ i.rd i.rs1 i.rs2 (mnemonic_word (registers i.op) refl) i.rd_in_range i.rs1_in_range i.rs2_in_range
words_of (instr.Amo i) = amo_words i
words_of (instr.Fence i) = fence_words i.pred i.succ i.pred_in_range i.succ_in_range
words_of instr.Ecall = word_alone _ (mnemonic_word ecall refl)
words_of instr.Ebreak = word_alone _ (mnemonic_word ebreak refl)
