-- The spelling of each instruction is read as its word.
use Rattle.std.proofs.Common.{◌≡◌, ℕ, suc, ◌+◌, ◌-◌, ◌*◌, ◌/◌, ◌%◌, ◌^◌, ◌<◌, ◌≤◌, Bool, true, false, IsTrue, ℤ, pos, negsuc, neg_ℤ, ◌+ℤ◌, ◌≤ℤ◌, ◌<ℤ◌, unsigned_abs, codes, List, [], ◌∷◌, ◌++◌, Option, Some, None, Result, Ok, Err, if◌then◌else◌, decimal, refl, ap, sym, subst, ◌∙◌, append_assoc, arith}
use Rattle.std.specs.Fmt.{signed_decimal}
use Rattle.std.proofs.lemmas.Int.{ints}
use Rattle.std.proofs.lemmas.Bool.Decides.{nat_tests}
use Rattle.dash_base.specs.Ranges.{FitsBits, FitsOffset, FitsImmediate, has_immediate}
use Rattle.dash_base.specs.declared.instr.Amo.{Amo}
use Rattle.dash_base.specs.declared.instr.Instr.{Instr}
use Rattle.dash_base.specs.declared.instr.Instr.TheVariants as instr
use Rattle.dash_base.specs.declared.instr.Labels.{Labels}
use Rattle.dash_base.specs.declared.instr.OpImm.{OpImm}
use Rattle.dash_base.specs.declared.ops.AluOp.{AluOp}
use Rattle.dash_base.specs.declared.ops.AluOp.TheVariants.{Or}
use Rattle.dash_base.specs.declared.ops.AmoOp.{AmoOp}
use Rattle.dash_base.specs.declared.ops.AmoOp.TheVariants as amo
use Rattle.dash_base.specs.declared.ops.BranchOp.{BranchOp}
use Rattle.dash_base.specs.declared.ops.LoadOp.{LoadOp}
use Rattle.dash_base.specs.declared.ops.StoreOp.{StoreOp}
use Rattle.dash_base.specs.declared.need.HintKind.{HintKind}
use Rattle.dash_base.specs.declared.need.HintKind.TheVariants.{Fetch, Shared, Exclusive}
use Rattle.rv32_decode.specs.Hints.{hint_of, low_bits, offset_of, prefetch_kind, prefetch_of}
use Rattle.rv32_decode.specs.Layout.{in_bits, u_type, j_type, i_type, b_type, s_type, r_type, branch_funct3, load_funct3, store_funct3, alu_funct3, alu_funct7, immediate_bits, word_of}
use Rattle.rv32_text.specs.Names.{register, fence_set, branch_name, load_name, store_name, alu_name, immediate_name, amo_name, label_suffix, prefetch_name}
use Rattle.rv32_text.specs.Text.{place, upper_text, jal_text, place_text, number_text, registers_text, source_text, amo_text, fence_text, hint_text, hint_or, instr_text, text_of}
use Rattle.asm_words.specs.Mnemonics.{is_used, spelled}
use Rattle.asm_words.specs.Names.{is_name}
use Rattle.asm_words.specs.Tables.{fence_set_of}
use Rattle.asm_words.specs.declared.mnemonic.Mnemonic.{Mnemonic}
use Rattle.asm_words.specs.declared.mnemonic.Mnemonic.TheVariants as the
use Rattle.asm_words.specs.declared.operands.Operands.TheVariants.{One, Two, Three}
use Rattle.asm_words.proofs.Again.{fence_sets_again}
use Rattle.rv32_asm.specs.Fields.{fits, place_field}
use Rattle.rv32_asm.specs.Lines.{reading}
use Rattle.rv32_asm.specs.Rows.{Reading, upper_row, jump_to, jal_row, jalr_row, branch_to, branch_row, load_row, store_row, immediate_of, immediate_row, registers_row, reserve_row, update_row, atomic_row, atomic_word, fence_of, fence_row, alone_row, prefetch_row, row_of, kind_bits, least_of, greatest_of}
use Rattle.rv32_asm.specs.Texts.{spelled_word}
use Rattle.rv32_asm.specs.declared.statement.Statement.TheVariants.{Put}
use Rattle.rv32_asm.proofs.Operand.{bare_operand, number_no_name, number_operand, one_line, place_operand, register_operand, set_operand, small_word, three_line, two_line}
use lib.Signed.{mag}
use Rattle.rv32_asm.proofs.Spelled.{alone_reads, bare_reads, fits_alu, fits_bits, fits_branch, fits_jump, number_reads, place_reads, register_reads}

-- the numbers of fields are small
small_bits : (z : ℤ) → FitsBits 12 z → unsigned_abs z < 2 ^ 33
small_bits z h = let low = h.low in let high = h.high in grind (arith, ints)

small_branch : (z : ℤ) → FitsOffset 13 z → unsigned_abs z < 2 ^ 33
small_branch z h = let low = h.fits.low in let high = h.fits.high in grind (arith, ints)

small_jump : (z : ℤ) → FitsOffset 21 z → unsigned_abs z < 2 ^ 33
small_jump z h = let low = h.fits.low in let high = h.fits.high in grind (arith, ints)

small_alu : (op : AluOp) (z : ℤ) → FitsImmediate op z → unsigned_abs z < 2 ^ 33
small_alu op z h = let low = h.low in let high = h.high in grind (arith, ints)

-- LUI and AUIPC
upper_row_is : (opcode rd k : ℕ) → rd < 32 → k < 1048576 → upper_row opcode (Two (register rd) (decimal k)) ≡ Ok (Put (u_type (4096 * k) rd opcode))
unfolding upper_row
upper_row_is opcode rd k below small =
    let fit : fits (pos 0) (pos 1048575) 1 (pos k) ≡ true = grind (arith, ints, nat_tests) in
    rw (register_reads rd below, number_reads (pos 0) (pos 1048575) 1 (pos k) (omega (arith, ints)) fit) refl

upper_value : (imm : ℕ) → imm % 2 ^ 12 ≡ 0 → 4096 * (imm / 4096) ≡ imm
upper_value imm e = omega arith

upper_small : (imm : ℕ) → imm < 2 ^ 32 → imm / 4096 < 1048576
upper_small imm below = omega arith

lui_reads : (rd imm : ℕ) → rd < 32 → imm < 2 ^ 32 → imm % 2 ^ 12 ≡ 0 → reading (upper_text (codes "lui") rd imm) ≡ Ok (Put (u_type imm rd 0b0110111))
unfolding upper_text
lui_reads rd imm below small upper =
    simp append_assoc (two_line the.Lui (register rd) (decimal (imm / 4096)) refl (register_operand rd below) (number_operand (pos (imm / 4096)) (omega (arith, ints, upper_small imm small)))
    ∙ upper_row_is 0b0110111 rd (imm / 4096) below (upper_small imm small)
    ∙ ap (λ n. Ok (Put (u_type n rd 0b0110111))) (upper_value imm upper))

auipc_reads : (rd imm : ℕ) → rd < 32 → imm < 2 ^ 32 → imm % 2 ^ 12 ≡ 0 → reading (upper_text (codes "auipc") rd imm) ≡ Ok (Put (u_type imm rd 0b0010111))
unfolding upper_text
auipc_reads rd imm below small upper =
    simp append_assoc (two_line the.Auipc (register rd) (decimal (imm / 4096)) refl (register_operand rd below) (number_operand (pos (imm / 4096)) (omega (arith, ints, upper_small imm small)))
    ∙ upper_row_is 0b0010111 rd (imm / 4096) below (upper_small imm small)
    ∙ ap (λ n. Ok (Put (u_type n rd 0b0010111))) (upper_value imm upper))

-- jumps and branches
jal_row_is : (rd : ℕ) (z : ℤ) → rd < 32 → FitsOffset 21 z → jal_row (Two (register rd) (signed_decimal z)) ≡ Ok (Put (j_type (in_bits 21 z) rd 0b1101111))
unfolding jal_row jump_to
jal_row_is rd z below h =
    rw (register_reads rd below, number_no_name z (small_jump z h), number_reads (neg_ℤ (pos 1048576)) (pos 1048574) 2 z (small_jump z h) (fits_jump z h)) refl

jal_reads : (rd : ℕ) (z : ℤ) → rd < 32 → FitsOffset 21 z → reading (jal_text rd z) ≡ Ok (Put (j_type (in_bits 21 z) rd 0b1101111))
unfolding jal_text
jal_reads rd z below h =
    simp append_assoc (two_line the.Jal (register rd) (signed_decimal z) refl (register_operand rd below) (number_operand z (small_jump z h)) ∙ jal_row_is rd z below h)

branch_row_is : (op : BranchOp) (rs1 rs2 : ℕ) (z : ℤ) → rs1 < 32 → rs2 < 32 → FitsOffset 13 z
    → branch_row op (Three (register rs1) (register rs2) (signed_decimal z)) ≡ Ok (Put (b_type (in_bits 13 z) rs2 rs1 (branch_funct3 op) 0b1100011))
unfolding branch_row branch_to
branch_row_is op rs1 rs2 z below1 below2 h =
    rw (register_reads rs1 below1, register_reads rs2 below2, number_no_name z (small_branch z h), number_reads (neg_ℤ (pos 4096)) (pos 4094) 2 z (small_branch z h) (fits_branch z h)) refl

branch_reads : (op : BranchOp) (rs1 rs2 : ℕ) (z : ℤ) → rs1 < 32 → rs2 < 32 → FitsOffset 13 z
    → reading (number_text (branch_name op) rs1 rs2 z) ≡ Ok (Put (b_type (in_bits 13 z) rs2 rs1 (branch_funct3 op) 0b1100011))
unfolding number_text
branch_reads op rs1 rs2 z below1 below2 h =
    simp append_assoc (three_line (the.Branch op) (register rs1) (register rs2) (signed_decimal z) refl (register_operand rs1 below1) (register_operand rs2 below2) (number_operand z (small_branch z h))
    ∙ branch_row_is op rs1 rs2 z below1 below2 h)

-- places
place_bits : (z : ℤ) (base : ℕ) → FitsBits 12 z → base < 32
    → place_field (neg_ℤ (pos 2048)) (pos 2047) 1 (signed_decimal z ++ 40 ∷ (register base ++ 41 ∷ [])) ≡ record { offset = z; base = base; fault = None }
place_bits z base h below =
    place_reads (neg_ℤ (pos 2048)) (pos 2047) 1 z base (small_bits z h) below (fits_bits z h) (small_word z (small_bits z h))

jalr_row_is : (rd base : ℕ) (z : ℤ) → rd < 32 → base < 32 → FitsBits 12 z
    → jalr_row (Two (register rd) (signed_decimal z ++ 40 ∷ (register base ++ 41 ∷ []))) ≡ Ok (Put (i_type (in_bits 12 z) base 0b000 rd 0b1100111))
unfolding jalr_row
jalr_row_is rd base z below1 below2 h = rw (register_reads rd below1, place_bits z base h below2) refl

load_row_is : (op : LoadOp) (rd base : ℕ) (z : ℤ) → rd < 32 → base < 32 → FitsBits 12 z
    → load_row op (Two (register rd) (signed_decimal z ++ 40 ∷ (register base ++ 41 ∷ []))) ≡ Ok (Put (i_type (in_bits 12 z) base (load_funct3 op) rd 0b0000011))
unfolding load_row
load_row_is op rd base z below1 below2 h = rw (register_reads rd below1, place_bits z base h below2) refl

store_row_is : (op : StoreOp) (rs2 base : ℕ) (z : ℤ) → rs2 < 32 → base < 32 → FitsBits 12 z
    → store_row op (Two (register rs2) (signed_decimal z ++ 40 ∷ (register base ++ 41 ∷ []))) ≡ Ok (Put (s_type (in_bits 12 z) rs2 base (store_funct3 op) 0b0100011))
unfolding store_row
store_row_is op rs2 base z below1 below2 h = rw (register_reads rs2 below1, place_bits z base h below2) refl

place_line : (m : Mnemonic) (a base : ℕ) (z : ℤ) → IsTrue (is_used m) → a < 32 → base < 32 → FitsBits 12 z
    → reading (place_text (spelled m) a z base) ≡ row_of m (Two (register a) (signed_decimal z ++ 40 ∷ (register base ++ 41 ∷ [])))
unfolding place_text place
place_line m a base z used below1 below2 h =
    simp append_assoc (two_line m (register a) (signed_decimal z ++ 40 ∷ (register base ++ 41 ∷ [])) used (register_operand a below1) (place_operand z base (small_bits z h) below2))

-- operations
registers_row_is : (op : AluOp) (rd rs1 rs2 : ℕ) → rd < 32 → rs1 < 32 → rs2 < 32
    → registers_row op (Three (register rd) (register rs1) (register rs2)) ≡ Ok (Put (r_type (alu_funct7 op) rs2 rs1 (alu_funct3 op) rd 0b0110011))
unfolding registers_row
registers_row_is op rd rs1 rs2 below below1 below2 = rw (register_reads rd below, register_reads rs1 below1, register_reads rs2 below2) refl

registers_reads : (op : AluOp) (rd rs1 rs2 : ℕ) → rd < 32 → rs1 < 32 → rs2 < 32
    → reading (registers_text (alu_name op) rd rs1 rs2) ≡ Ok (Put (r_type (alu_funct7 op) rs2 rs1 (alu_funct3 op) rd 0b0110011))
unfolding registers_text
registers_reads op rd rs1 rs2 below below1 below2 =
    simp append_assoc (three_line (the.Registers op) (register rd) (register rs1) (register rs2) refl (register_operand rd below) (register_operand rs1 below1) (register_operand rs2 below2)
    ∙ registers_row_is op rd rs1 rs2 below below1 below2)

immediate_is : (op : AluOp) (rd rs1 : ℕ) (z : ℤ) → rd < 32 → rs1 < 32 → FitsImmediate op z
    → immediate_of op (register rd) (register rs1) (signed_decimal z) ≡ Ok (Put (i_type (immediate_bits op z) rs1 (alu_funct3 op) rd 0b0010011))
unfolding immediate_of
immediate_is op rd rs1 z below below1 h =
    rw (register_reads rd below, register_reads rs1 below1, number_reads (least_of op) (greatest_of op) 1 z (small_alu op z h) (fits_alu op z h)) refl

immediate_row_is : (op : AluOp) (rd rs1 : ℕ) (z : ℤ) → has_immediate op ≡ true → rd < 32 → rs1 < 32 → FitsImmediate op z
    → immediate_row op (Three (register rd) (register rs1) (signed_decimal z)) ≡ Ok (Put (i_type (immediate_bits op z) rs1 (alu_funct3 op) rd 0b0010011))
unfolding immediate_row
immediate_row_is op rd rs1 z form below below1 h = rw form (immediate_is op rd rs1 z below below1 h)

immediate_reads : (i : OpImm) → reading (number_text (immediate_name i.op) i.rd i.rs1 i.imm) ≡ Ok (Put (word_of (instr.OpImm i)))
unfolding number_text
immediate_reads i =
    simp append_assoc (three_line (the.Immediate i.op) (register i.rd) (register i.rs1) (signed_decimal i.imm) i.has_form (register_operand i.rd i.rd_in_range) (register_operand i.rs1 i.rs1_in_range) (number_operand i.imm (small_alu i.op i.imm i.imm_in_range))
    ∙ immediate_row_is i.op i.rd i.rs1 i.imm i.has_form i.rd_in_range i.rs1_in_range i.imm_in_range)

-- prefetches
record IsPrefetch (i : OpImm) (kind : HintKind) : Type 0 where
  op : i.op ≡ Or
  rd : i.rd ≡ 0
  low : low_bits i.imm ≡ kind_bits kind

is_prefetch : (i : OpImm) (kind : HintKind) → prefetch_kind i ≡ Some kind → IsPrefetch i kind
is_prefetch i kind e = record { op = grind arith; rd = grind arith; low = grind arith }

within : (op : AluOp) (z : ℤ) → FitsImmediate op z → mag z < 2049
within op z h = let low = h.low in let high = h.high in grind (arith, ints)

offset_back : (z : ℤ) (n : ℕ) → low_bits z ≡ n → offset_of z +ℤ pos n ≡ z
offset_back z n e = omega (arith, ints)

or_low : (op : AluOp) (z : ℤ) → op ≡ Or → FitsImmediate op z → neg_ℤ (pos 2048) ≤ℤ z
or_low op z e h = let low = h.low in grind (arith, ints)

or_high : (op : AluOp) (z : ℤ) → op ≡ Or → FitsImmediate op z → z ≤ℤ pos 2047
or_high op z e h = let high = h.high in grind (arith, ints)

fits_parts : (z : ℤ) → neg_ℤ (pos 2048) ≤ℤ z → z ≤ℤ pos 2016 → unsigned_abs z % 32 ≡ 0 → fits (neg_ℤ (pos 2048)) (pos 2016) 32 z ≡ true
fits_parts z low high even = grind (arith, ints, nat_tests)

offset_low : (z : ℤ) → neg_ℤ (pos 2048) ≤ℤ z → z ≤ℤ pos 2047 → neg_ℤ (pos 2048) ≤ℤ offset_of z
offset_low (pos n) low high = omega (arith, ints)
offset_low (negsuc n) low high = omega (arith, ints)

offset_high : (z : ℤ) → neg_ℤ (pos 2048) ≤ℤ z → z ≤ℤ pos 2047 → offset_of z ≤ℤ pos 2016
offset_high (pos n) low high = omega (arith, ints)
offset_high (negsuc n) low high = omega (arith, ints)

offset_multiple : (z : ℤ) → neg_ℤ (pos 2048) ≤ℤ z → z ≤ℤ pos 2047 → unsigned_abs (offset_of z) % 32 ≡ 0
offset_multiple (pos n) low high = omega (arith, ints)
offset_multiple (negsuc n) low high = omega (arith, ints)

fits_prefetch : (z : ℤ) → neg_ℤ (pos 2048) ≤ℤ z → z ≤ℤ pos 2047 → fits (neg_ℤ (pos 2048)) (pos 2016) 32 (offset_of z) ≡ true
fits_prefetch z low high = fits_parts (offset_of z) (offset_low z low high) (offset_high z low high) (offset_multiple z low high)

small_prefetch : (z : ℤ) → neg_ℤ (pos 2048) ≤ℤ z → z ≤ℤ pos 2047 → unsigned_abs (offset_of z) < 2 ^ 33
small_prefetch (pos n) low high = omega (arith, ints)
small_prefetch (negsuc n) low high = omega (arith, ints)

prefetch_row_is : (kind : HintKind) (base : ℕ) (z : ℤ) → base < 32 → neg_ℤ (pos 2048) ≤ℤ z → z ≤ℤ pos 2047
    → prefetch_row kind (One (signed_decimal (offset_of z) ++ 40 ∷ (register base ++ 41 ∷ [])))
    ≡ Ok (Put (i_type (in_bits 12 (offset_of z +ℤ pos (kind_bits kind))) base 0b110 0 0b0010011))
unfolding prefetch_row
prefetch_row_is kind base z below low high =
    let small = small_prefetch z low high in
    rw (place_reads (neg_ℤ (pos 2048)) (pos 2016) 32 (offset_of z) base small below (fits_prefetch z low high) (small_word (offset_of z) small)) refl

prefetch_line : (kind : HintKind) (base : ℕ) (z : ℤ) → base < 32 → unsigned_abs z < 2 ^ 33
    → reading (prefetch_name kind ++ codes " " ++ place z base) ≡ row_of (the.Prefetch kind) (One (signed_decimal z ++ 40 ∷ (register base ++ 41 ∷ [])))
unfolding place
prefetch_line kind base z below small =
    simp append_assoc (one_line (the.Prefetch kind) (signed_decimal z ++ 40 ∷ (register base ++ 41 ∷ [])) refl (place_operand z base small below))

same_word : (op : AluOp) (rd rs1 : ℕ) (y z : ℤ) → op ≡ Or → rd ≡ 0 → y ≡ z
    → i_type (in_bits 12 y) rs1 0b110 0 0b0010011 ≡ i_type (immediate_bits op z) rs1 (alu_funct3 op) rd 0b0010011
same_word op rd rs1 y z o r e =
    ap (λ x. i_type (in_bits 12 x) rs1 0b110 0 0b0010011) e
    ∙ ap (λ d. i_type (in_bits 12 z) rs1 0b110 d 0b0010011) (sym r)
    ∙ ap (λ p. i_type (immediate_bits p z) rs1 (alu_funct3 p) rd 0b0010011) (sym o)

op_imm_reads : (i : OpImm) (kind : Option HintKind) → prefetch_kind i ≡ kind
    → reading (hint_or (prefetch_of i kind) (instr_text (instr.OpImm i))) ≡ Ok (Put (word_of (instr.OpImm i)))
unfolding hint_text
op_imm_reads i None e = immediate_reads i
op_imm_reads i (Some kind) e =
    let is = is_prefetch i kind e in
    let low = or_low i.op i.imm is.op i.imm_in_range in
    let high = or_high i.op i.imm is.op i.imm_in_range in
    prefetch_line kind i.rs1 (offset_of i.imm) i.rs1_in_range (small_prefetch i.imm low high)
    ∙ prefetch_row_is kind i.rs1 i.imm i.rs1_in_range low high
    ∙ ap (λ w. Ok (Put w)) (same_word i.op i.rd i.rs1 (offset_of i.imm +ℤ pos (kind_bits kind)) i.imm is.op is.rd (offset_back i.imm (kind_bits kind) is.low))

-- atomic operations
reserve_row_is : (labels : Labels) (rd base : ℕ) → rd < 32 → base < 32
    → reserve_row labels (Two (register rd) (40 ∷ (register base ++ 41 ∷ []))) ≡ Ok (Put (atomic_word amo.Lr labels rd base 0))
unfolding reserve_row
reserve_row_is labels rd base below1 below2 = rw (register_reads rd below1, bare_reads base below2) refl

update_row_is : (op : AmoOp) (labels : Labels) (rd rs2 base : ℕ) → rd < 32 → rs2 < 32 → base < 32
    → update_row op labels (Three (register rd) (register rs2) (40 ∷ (register base ++ 41 ∷ []))) ≡ Ok (Put (atomic_word op labels rd base rs2))
unfolding update_row
update_row_is op labels rd rs2 base below1 below2 below3 = rw (register_reads rd below1, register_reads rs2 below2, bare_reads base below3) refl

reserve_line : (labels : Labels) (rd rs2 base : ℕ) → rd < 32 → base < 32 → rs2 ≡ 0
    → reading (amo_name amo.Lr ++ label_suffix labels.aq labels.rl ++ codes " " ++ register rd ++ codes "," ++ source_text amo.Lr rs2 ++ codes "(" ++ register base ++ codes ")")
    ≡ Ok (Put (atomic_word amo.Lr labels rd base rs2))
reserve_line labels rd rs2 base below1 below2 none =
    simp append_assoc (two_line (the.Atomic amo.Lr labels) (register rd) (40 ∷ (register base ++ 41 ∷ [])) refl (register_operand rd below1) (bare_operand base below2)
    ∙ reserve_row_is labels rd base below1 below2
    ∙ ap (λ n. Ok (Put (atomic_word amo.Lr labels rd base n))) (sym none))

-- fences
fence_row_is : (pred succ : ℕ) → pred < 16 → succ < 16
    → fence_row (Two (fence_set pred) (fence_set succ)) ≡ Ok (Put (i_type (0 * 2 ^ 8 + pred * 2 ^ 4 + succ) 0 0b000 0 0b0001111))
unfolding fence_row
fence_row_is pred succ below1 below2 = rw (fence_sets_again pred below1, fence_sets_again succ below2) refl

fence_reads : (pred succ : ℕ) → pred < 16 → succ < 16
    → reading (fence_text pred succ) ≡ Ok (Put (i_type (0 * 2 ^ 8 + pred * 2 ^ 4 + succ) 0 0b000 0 0b0001111))
unfolding fence_text
fence_reads pred succ below1 below2 =
    simp append_assoc (two_line the.Fence (fence_set pred) (fence_set succ) refl (set_operand pred below1) (set_operand succ below2) ∙ fence_row_is pred succ below1 below2)

-- an update, of which only the operation tells that it is not LR
update_line : (op : AmoOp) (labels : Labels) (rd rs2 base : ℕ) → rd < 32 → rs2 < 32 → base < 32
    → reading (spelled (the.Atomic op labels) ++ 32 ∷ (register rd ++ 44 ∷ (register rs2 ++ 44 ∷ (40 ∷ (register base ++ 41 ∷ [])))))
    ≡ atomic_row op labels (Three (register rd) (register rs2) (40 ∷ (register base ++ 41 ∷ [])))
update_line op labels rd rs2 base below1 below2 below3 =
    three_line (the.Atomic op labels) (register rd) (register rs2) (40 ∷ (register base ++ 41 ∷ [])) refl (register_operand rd below1) (register_operand rs2 below2) (bare_operand base below3)

regroup : (name suffix a b c : List ℕ)
    → name ++ suffix ++ (32 ∷ []) ++ a ++ (44 ∷ []) ++ (b ++ (44 ∷ [])) ++ (40 ∷ []) ++ c ++ (41 ∷ [])
    ≡ (name ++ suffix) ++ 32 ∷ (a ++ 44 ∷ (b ++ 44 ∷ (40 ∷ (c ++ 41 ∷ []))))
regroup name suffix a b c = simp append_assoc refl

amo_text_of : AmoOp → Labels → ℕ → ℕ → ℕ → List ℕ
amo_text_of op labels rd rs2 base =
    amo_name op ++ label_suffix labels.aq labels.rl ++ codes " " ++ register rd ++ codes "," ++ source_text op rs2 ++ codes "(" ++ register base ++ codes ")"

amo_reads : (op : AmoOp) (labels : Labels) (rd rs2 base : ℕ) → rd < 32 → rs2 < 32 → base < 32 → (op ≡ amo.Lr → rs2 ≡ 0)
    → reading (amo_text_of op labels rd rs2 base) ≡ Ok (Put (atomic_word op labels rd base rs2))
unfolding amo_text_of
amo_reads amo.Lr labels rd rs2 base below1 below2 below3 none = reserve_line labels rd rs2 base below1 below3 (none refl)
amo_reads op labels rd rs2 base below1 below2 below3 none =
    ap reading (regroup (amo_name op) (label_suffix labels.aq labels.rl) (register rd) (register rs2) (register base))
    ∙ update_line op labels rd rs2 base below1 below2 below3 ∙ update_row_is op labels rd rs2 base below1 below2 below3

atomic_reads : (i : Amo) → reading (amo_text i) ≡ Ok (Put (word_of (instr.Amo i)))
unfolding amo_text amo_text_of
atomic_reads i = amo_reads i.op i.labels i.rd i.rs2 i.rs1 i.rd_in_range i.rs2_in_range i.rs1_in_range i.lr_has_no_source

pub texts_are_read : (i : Instr) → reading (text_of i) ≡ Ok (Put (spelled_word i))
unfolding alone_row
texts_are_read (instr.Lui i) = lui_reads i.rd i.imm i.rd_in_range i.imm_in_range i.imm_is_upper
texts_are_read (instr.Auipc i) = auipc_reads i.rd i.imm i.rd_in_range i.imm_in_range i.imm_is_upper
texts_are_read (instr.Jal i) = jal_reads i.rd i.offset i.rd_in_range i.offset_in_range
texts_are_read (instr.Jalr i) =
    place_line the.Jalr i.rd i.rs1 i.offset refl i.rd_in_range i.rs1_in_range i.offset_in_range
    ∙ jalr_row_is i.rd i.rs1 i.offset i.rd_in_range i.rs1_in_range i.offset_in_range
texts_are_read (instr.Branch i) = branch_reads i.op i.rs1 i.rs2 i.offset i.rs1_in_range i.rs2_in_range i.offset_in_range
texts_are_read (instr.Load i) =
    place_line (the.Load i.op) i.rd i.rs1 i.offset refl i.rd_in_range i.rs1_in_range i.offset_in_range
    ∙ load_row_is i.op i.rd i.rs1 i.offset i.rd_in_range i.rs1_in_range i.offset_in_range
texts_are_read (instr.Store i) =
    place_line (the.Store i.op) i.rs2 i.rs1 i.offset refl i.rs2_in_range i.rs1_in_range i.offset_in_range
    ∙ store_row_is i.op i.rs2 i.rs1 i.offset i.rs2_in_range i.rs1_in_range i.offset_in_range
texts_are_read (instr.OpImm i) = op_imm_reads i (prefetch_kind i) refl
texts_are_read (instr.Op i) = registers_reads i.op i.rd i.rs1 i.rs2 i.rd_in_range i.rs1_in_range i.rs2_in_range
texts_are_read (instr.Amo i) = atomic_reads i
texts_are_read (instr.Fence i) = fence_reads i.pred i.succ i.pred_in_range i.succ_in_range
texts_are_read instr.Ecall = alone_reads the.Ecall refl
texts_are_read instr.Ebreak = alone_reads the.Ebreak refl
