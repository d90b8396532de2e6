-- What a line says by its mnemonic or directive and its operands.
use Rattle.std.specs.Prelude.{ℕ, ◌+◌, ◌*◌, ◌^◌, ◌%◌, ◌/◌, Bool, true, false, List, [], ◌∷◌, ℤ, pos, neg_ℤ, ◌+ℤ◌, unsigned_abs, Option, Some, None, Result, Ok, Err, if◌then◌else◌}
use Rattle.dash_base.specs.Ranges.{has_immediate}
use Rattle.dash_base.specs.declared.instr.Labels.{Labels}
use Rattle.dash_base.specs.declared.ops.AluOp.{AluOp}
use Rattle.dash_base.specs.declared.ops.AluOp.TheVariants as alu
use Rattle.dash_base.specs.declared.ops.AmoOp.{AmoOp}
use Rattle.dash_base.specs.declared.ops.AmoOp.TheVariants as amo
use Rattle.dash_base.specs.declared.ops.BranchOp.{BranchOp}
use Rattle.dash_base.specs.declared.ops.LoadOp.{LoadOp}
use Rattle.dash_base.specs.declared.ops.StoreOp.{StoreOp}
use Rattle.dash_base.specs.declared.need.HintKind.{HintKind}
use Rattle.dash_base.specs.declared.need.HintKind.TheVariants.{Fetch, Shared, Exclusive}
use Rattle.rv32_decode.specs.Layout.{in_bits, u_type, j_type, i_type, b_type, s_type, r_type, branch_funct3, load_funct3, store_funct3, alu_funct3, alu_funct7, amo_funct5, bit_of, is_shift, immediate_bits}
use Rattle.asm_words.specs.Names.{is_name}
use Rattle.asm_words.specs.Tables.{fence_set_of}
use Rattle.asm_words.specs.declared.mnemonic.Mnemonic.{Mnemonic}
use Rattle.asm_words.specs.declared.mnemonic.Mnemonic.TheVariants as the
use Rattle.asm_words.specs.declared.operands.Operands.{Operands}
use Rattle.asm_words.specs.declared.operands.Operands.TheVariants.{Nothing, One, Two, Three, Many}
use Rattle.rv32_asm.specs.Fields.{worst, register_field, number_field, place_field, bare_field}
use Rattle.rv32_asm.specs.declared.refusal.AsmCause.{AsmCause}
use Rattle.rv32_asm.specs.declared.refusal.AsmCause.TheVariants.{Shape, Name, Immediate}
use Rattle.rv32_asm.specs.declared.statement.Statement.{Statement}
use Rattle.rv32_asm.specs.declared.statement.Statement.TheVariants as says

-- what a line says, or the fault that it has for itself
abbrev pub Reading : Type 0
Reading = Result Statement AsmCause

-- this, where there is no fault
abbrev pub said : Option AsmCause → Statement → Reading
said None statement = Ok statement
said (Some cause) statement = Err cause

-- LUI and AUIPC, by the upper 20 bits
unfoldable pub upper_row : ℕ → Operands → Reading
upper_row opcode (Two a b) =
    let rd = register_field a in
    let n = number_field (pos 0) (pos 1048575) 1 b in
    said (worst rd.fault n.fault) (says.Put (u_type (4096 * unsigned_abs n.value) rd.register opcode))
upper_row opcode _ = Err Shape

-- a jump that keeps its return address in a register, by its offset or to a label
unfoldable pub jump_to : ℕ → Option AsmCause → List ℕ → Reading
jump_to rd fault target =
    if is_name target then said fault (says.Jump rd target)
    else (let n = number_field (neg_ℤ (pos 1048576)) (pos 1048574) 2 target in
    said (worst fault n.fault) (says.Put (j_type (in_bits 21 n.value) rd 0b1101111)))

unfoldable pub jal_row : Operands → Reading
jal_row (Two a b) = let rd = register_field a in jump_to rd.register rd.fault b
jal_row _ = Err Shape

unfoldable pub jump_row : Operands → Reading
jump_row (One a) = jump_to 0 None a
jump_row _ = Err Shape

unfoldable pub jalr_row : Operands → Reading
jalr_row (Two a b) =
    let rd = register_field a in
    let p = place_field (neg_ℤ (pos 2048)) (pos 2047) 1 b in
    said (worst rd.fault p.fault) (says.Put (i_type (in_bits 12 p.offset) p.base 0b000 rd.register 0b1100111))
jalr_row _ = Err Shape

-- a branch, by its offset or to a label
unfoldable pub branch_to : BranchOp → ℕ → ℕ → Option AsmCause → List ℕ → Reading
branch_to op rs1 rs2 fault target =
    if is_name target then said fault (says.Branch op rs1 rs2 target)
    else (let n = number_field (neg_ℤ (pos 4096)) (pos 4094) 2 target in
    said (worst fault n.fault) (says.Put (b_type (in_bits 13 n.value) rs2 rs1 (branch_funct3 op) 0b1100011)))

unfoldable pub branch_row : BranchOp → Operands → Reading
branch_row op (Three a b c) =
    let rs1 = register_field a in
    let rs2 = register_field b in
    branch_to op rs1.register rs2.register (worst rs1.fault rs2.fault) c
branch_row op _ = Err Shape

unfoldable pub load_row : LoadOp → Operands → Reading
load_row op (Two a b) =
    let rd = register_field a in
    let p = place_field (neg_ℤ (pos 2048)) (pos 2047) 1 b in
    said (worst rd.fault p.fault) (says.Put (i_type (in_bits 12 p.offset) p.base (load_funct3 op) rd.register 0b0000011))
load_row op _ = Err Shape

unfoldable pub store_row : StoreOp → Operands → Reading
store_row op (Two a b) =
    let rs2 = register_field a in
    let p = place_field (neg_ℤ (pos 2048)) (pos 2047) 1 b in
    said (worst rs2.fault p.fault) (says.Put (s_type (in_bits 12 p.offset) rs2.register p.base (store_funct3 op) 0b0100011))
store_row op _ = Err Shape

-- the least and the greatest immediate of an operation
abbrev pub least_of : AluOp → ℤ
least_of op = if is_shift op then pos 0 else neg_ℤ (pos 2048)

abbrev pub greatest_of : AluOp → ℤ
greatest_of op = if is_shift op then pos 31 else pos 2047

unfoldable pub immediate_of : AluOp → List ℕ → List ℕ → List ℕ → Reading
immediate_of op a b c =
    let rd = register_field a in
    let rs1 = register_field b in
    let n = number_field (least_of op) (greatest_of op) 1 c in
    said (worst (worst rd.fault rs1.fault) n.fault)
    (says.Put (i_type (immediate_bits op n.value) rs1.register (alu_funct3 op) rd.register 0b0010011))

unfoldable pub immediate_row : AluOp → Operands → Reading
immediate_row op (Three a b c) = if has_immediate op then immediate_of op a b c else Err Shape
immediate_row op _ = Err Shape

unfoldable pub registers_row : AluOp → Operands → Reading
registers_row op (Three a b c) =
    let rd = register_field a in
    let rs1 = register_field b in
    let rs2 = register_field c in
    said (worst (worst rd.fault rs1.fault) rs2.fault)
    (says.Put (r_type (alu_funct7 op) rs2.register rs1.register (alu_funct3 op) rd.register 0b0110011))
registers_row op _ = Err Shape

-- the word of an atomic operation
abbrev pub atomic_word : AmoOp → Labels → ℕ → ℕ → ℕ → ℕ
atomic_word op labels rd rs1 rs2 =
    r_type (amo_funct5 op * 2 ^ 2 + bit_of labels.aq * 2 + bit_of labels.rl) rs2 rs1 0b010 rd 0b0101111

-- LR, which has no source
unfoldable pub reserve_row : Labels → Operands → Reading
reserve_row labels (Two a b) =
    let rd = register_field a in
    let base = bare_field b in
    said (worst rd.fault base.fault) (says.Put (atomic_word amo.Lr labels rd.register base.register 0))
reserve_row labels _ = Err Shape

unfoldable pub update_row : AmoOp → Labels → Operands → Reading
update_row op labels (Three a b c) =
    let rd = register_field a in
    let rs2 = register_field b in
    let base = bare_field c in
    said (worst (worst rd.fault rs2.fault) base.fault) (says.Put (atomic_word op labels rd.register base.register rs2.register))
update_row op labels _ = Err Shape

abbrev pub atomic_row : AmoOp → Labels → Operands → Reading
atomic_row amo.Lr labels operands = reserve_row labels operands
atomic_row op labels operands = update_row op labels operands

abbrev pub fence_of : Option ℕ → Option ℕ → Reading
fence_of (Some pred) (Some succ) = Ok (says.Put (i_type (0 * 2 ^ 8 + pred * 2 ^ 4 + succ) 0 0b000 0 0b0001111))
fence_of _ _ = Err Shape

-- a fence, whose fm, rd and rs1 are 0
unfoldable pub fence_row : Operands → Reading
fence_row (Two a b) = fence_of (fence_set_of a) (fence_set_of b)
fence_row _ = Err Shape

-- one word that takes no operands
unfoldable pub alone_row : ℕ → Operands → Reading
alone_row word Nothing = Ok (says.Put word)
alone_row word _ = Err Shape

-- the low five bits of a prefetch's immediate
abbrev pub kind_bits : HintKind → ℕ
kind_bits Fetch = 0
kind_bits Shared = 1
kind_bits Exclusive = 3

unfoldable pub prefetch_row : HintKind → Operands → Reading
prefetch_row kind (One a) =
    let p = place_field (neg_ℤ (pos 2048)) (pos 2016) 32 a in
    said p.fault (says.Put (i_type (in_bits 12 (p.offset +ℤ pos (kind_bits kind))) p.base 0b110 0 0b0010011))
prefetch_row kind _ = Err Shape

-- `li`: a number modulo 2^32
unfoldable pub pair_row : Operands → Reading
pair_row (Two a b) =
    let rd = register_field a in
    let n = number_field (neg_ℤ (pos 2147483648)) (pos 4294967295) 1 b in
    said (worst rd.fault n.fault) (says.Pair rd.register (in_bits 32 n.value))
pair_row _ = Err Shape

-- `la`
unfoldable pub address_row : Operands → Reading
address_row (Two a b) =
    let rd = register_field a in
    if is_name b then said rd.fault (says.PairAddress rd.register b) else Err Shape
address_row _ = Err Shape

-- `mv`
unfoldable pub move_row : Operands → Reading
move_row (Two a b) =
    let rd = register_field a in
    let rs1 = register_field b in
    said (worst rd.fault rs1.fault) (says.Put (i_type 0 rs1.register 0b000 rd.register 0b0010011))
move_row _ = Err Shape

-- `.text` and `.data`, by the flags of the segment
unfoldable pub segment_row : ℕ → Operands → Reading
segment_row flags (One a) =
    let n = number_field (pos 0) (pos 4294967295) 4 a in
    said n.fault (says.Segment (unsigned_abs n.value) flags)
segment_row flags _ = Err Shape

-- `.word`: a number modulo 2^32, or a label
unfoldable pub word_row : Operands → Reading
word_row (One a) =
    if is_name a then Ok (says.PutAddress a)
    else (let n = number_field (neg_ℤ (pos 2147483648)) (pos 4294967295) 1 a in
    said n.fault (says.Put (in_bits 32 n.value)))
word_row _ = Err Shape

-- `.space`
unfoldable pub space_row : Operands → Reading
space_row (One a) =
    let n = number_field (pos 0) (pos 16777216) 4 a in
    said n.fault (says.Space (unsigned_abs n.value))
space_row _ = Err Shape

-- `.entry`
unfoldable pub entry_row : Operands → Reading
entry_row (One a) = if is_name a then Ok (says.Entry a) else Err Shape
entry_row _ = Err Shape

-- by the mnemonic or directive
abbrev pub row_of : Mnemonic → Operands → Reading
row_of the.Lui operands = upper_row 0b0110111 operands
row_of the.Auipc operands = upper_row 0b0010111 operands
row_of the.Jal operands = jal_row operands
row_of the.Jalr operands = jalr_row operands
row_of (the.Branch op) operands = branch_row op operands
row_of (the.Load op) operands = load_row op operands
row_of (the.Store op) operands = store_row op operands
row_of (the.Immediate op) operands = immediate_row op operands
row_of (the.Registers op) operands = registers_row op operands
row_of (the.Atomic op labels) operands = atomic_row op labels operands
row_of the.Fence operands = fence_row operands
row_of the.Ecall operands = alone_row 0x0000_0073 operands
row_of the.Ebreak operands = alone_row 0x0010_0073 operands
row_of (the.Prefetch kind) operands = prefetch_row kind operands
row_of the.LoadImmediate operands = pair_row operands
row_of the.LoadAddress operands = address_row operands
row_of the.Jump operands = jump_row operands
row_of the.Nop operands = alone_row 0x0000_0013 operands
row_of the.Move operands = move_row operands
row_of the.Text operands = segment_row 5 operands
row_of the.Data operands = segment_row 6 operands
row_of the.Word operands = word_row operands
row_of the.Space operands = space_row operands
row_of the.Entry operands = entry_row operands
