-- The layout of an instruction's word, by the RISC-V unprivileged manual.
use Rattle.std.specs.Prelude.{ℕ, ◌+◌, ◌-◌, ◌*◌, ◌/◌, ◌%◌, ◌^◌, Bool, true, false, ℤ, pos, negsuc}
use Rattle.dash_base.specs.declared.instr.Instr.{Instr}
use Rattle.dash_base.specs.declared.instr.Instr.TheVariants as instr
use Rattle.dash_base.specs.declared.ops.AluOp.{AluOp}
use Rattle.dash_base.specs.declared.ops.AluOp.TheVariants as alu
use Rattle.dash_base.specs.declared.ops.AmoOp.{AmoOp}
use Rattle.dash_base.specs.declared.ops.AmoOp.TheVariants as amo
use Rattle.dash_base.specs.declared.ops.BranchOp.{BranchOp}
use Rattle.dash_base.specs.declared.ops.BranchOp.TheVariants.{Beq, Bne, Blt, Bge, Bltu, Bgeu}
use Rattle.dash_base.specs.declared.ops.LoadOp.{LoadOp}
use Rattle.dash_base.specs.declared.ops.LoadOp.TheVariants.{Lb, Lh, Lw, Lbu, Lhu}
use Rattle.dash_base.specs.declared.ops.StoreOp.{StoreOp}
use Rattle.dash_base.specs.declared.ops.StoreOp.TheVariants.{Sb, Sh, Sw}

-- a signed number in so many bits, by its two's complement
abbrev pub in_bits : ℕ → ℤ → ℕ
in_bits width (pos n) = n
in_bits width (negsuc n) = 2 ^ width - (n + 1)

-- so many bits of a number, from a bit on
abbrev pub bits_from : ℕ → ℕ → ℕ → ℕ
bits_from low width n = n / 2 ^ low % 2 ^ width

-- "Base Instruction Formats": two sources and a destination
abbrev pub r_type : ℕ → ℕ → ℕ → ℕ → ℕ → ℕ → ℕ
r_type funct7 rs2 rs1 funct3 rd opcode =
    funct7 * 2 ^ 25 + rs2 * 2 ^ 20 + rs1 * 2 ^ 15 + funct3 * 2 ^ 12 + rd * 2 ^ 7 + opcode

-- "Base Instruction Formats": a source, a destination and an immediate of 12 bits
abbrev pub i_type : ℕ → ℕ → ℕ → ℕ → ℕ → ℕ
i_type imm rs1 funct3 rd opcode =
    imm * 2 ^ 20 + rs1 * 2 ^ 15 + funct3 * 2 ^ 12 + rd * 2 ^ 7 + opcode

-- "Base Instruction Formats": two sources, the immediate in two parts
abbrev pub s_type : ℕ → ℕ → ℕ → ℕ → ℕ → ℕ
s_type imm rs2 rs1 funct3 opcode =
    bits_from 5 7 imm * 2 ^ 25 + rs2 * 2 ^ 20 + rs1 * 2 ^ 15 + funct3 * 2 ^ 12 + bits_from 0 5 imm * 2 ^ 7 + opcode

-- "Immediate Encoding Variants": S for an even immediate of 13 bits, whose bit 11 takes the place of bit 0
abbrev pub b_type : ℕ → ℕ → ℕ → ℕ → ℕ → ℕ
b_type imm rs2 rs1 funct3 opcode =
    bits_from 12 1 imm * 2 ^ 31 + bits_from 5 6 imm * 2 ^ 25 + rs2 * 2 ^ 20 + rs1 * 2 ^ 15 + funct3 * 2 ^ 12 + bits_from 1 4 imm * 2 ^ 8 + bits_from 11 1 imm * 2 ^ 7 + opcode

-- "Base Instruction Formats": a destination and the upper 20 bits of an immediate
abbrev pub u_type : ℕ → ℕ → ℕ → ℕ
u_type imm rd opcode = bits_from 12 20 imm * 2 ^ 12 + rd * 2 ^ 7 + opcode

-- "Immediate Encoding Variants": U for an even immediate of 21 bits
abbrev pub j_type : ℕ → ℕ → ℕ → ℕ
j_type imm rd opcode =
    bits_from 20 1 imm * 2 ^ 31 + bits_from 1 10 imm * 2 ^ 21 + bits_from 11 1 imm * 2 ^ 20 + bits_from 12 8 imm * 2 ^ 12 + rd * 2 ^ 7 + opcode

-- "Conditional Branches"
abbrev pub branch_funct3 : BranchOp → ℕ
branch_funct3 Beq = 0b000
branch_funct3 Bne = 0b001
branch_funct3 Blt = 0b100
branch_funct3 Bge = 0b101
branch_funct3 Bltu = 0b110
branch_funct3 Bgeu = 0b111

-- "Load and Store Instructions": the width, and 4 more where it is not signed
abbrev pub load_funct3 : LoadOp → ℕ
load_funct3 Lb = 0b000
load_funct3 Lh = 0b001
load_funct3 Lw = 0b010
load_funct3 Lbu = 0b100
load_funct3 Lhu = 0b101

-- "Load and Store Instructions"
abbrev pub store_funct3 : StoreOp → ℕ
store_funct3 Sb = 0b000
store_funct3 Sh = 0b001
store_funct3 Sw = 0b010

-- "Integer Computational Instructions", and the chapter on multiplication and division
abbrev pub alu_funct3 : AluOp → ℕ
alu_funct3 alu.Add = 0b000
alu_funct3 alu.Sub = 0b000
alu_funct3 alu.Sll = 0b001
alu_funct3 alu.Slt = 0b010
alu_funct3 alu.Sltu = 0b011
alu_funct3 alu.Xor = 0b100
alu_funct3 alu.Srl = 0b101
alu_funct3 alu.Sra = 0b101
alu_funct3 alu.Or = 0b110
alu_funct3 alu.And = 0b111
alu_funct3 alu.Mul = 0b000
alu_funct3 alu.Mulh = 0b001
alu_funct3 alu.Mulhsu = 0b010
alu_funct3 alu.Mulhu = 0b011
alu_funct3 alu.Div = 0b100
alu_funct3 alu.Divu = 0b101
alu_funct3 alu.Rem = 0b110
alu_funct3 alu.Remu = 0b111

-- the same chapters
abbrev pub alu_funct7 : AluOp → ℕ
alu_funct7 alu.Sub = 0b0100000
alu_funct7 alu.Sra = 0b0100000
alu_funct7 alu.Mul = 0b0000001
alu_funct7 alu.Mulh = 0b0000001
alu_funct7 alu.Mulhsu = 0b0000001
alu_funct7 alu.Mulhu = 0b0000001
alu_funct7 alu.Div = 0b0000001
alu_funct7 alu.Divu = 0b0000001
alu_funct7 alu.Rem = 0b0000001
alu_funct7 alu.Remu = 0b0000001
alu_funct7 _ = 0b0000000

-- the operations whose immediate is the amount of a shift
abbrev pub is_shift : AluOp → Bool
is_shift alu.Sll = true
is_shift alu.Srl = true
is_shift alu.Sra = true
is_shift _ = false

-- "Integer Register-Immediate Instructions": the immediate, and of a shift its funct7 above the amount
abbrev pub immediate_bits : AluOp → ℤ → ℕ
immediate_bits alu.Sll imm = alu_funct7 alu.Sll * 2 ^ 5 + in_bits 5 imm
immediate_bits alu.Srl imm = alu_funct7 alu.Srl * 2 ^ 5 + in_bits 5 imm
immediate_bits alu.Sra imm = alu_funct7 alu.Sra * 2 ^ 5 + in_bits 5 imm
immediate_bits _ imm = in_bits 12 imm

-- the chapter on atomic instructions
abbrev pub amo_funct5 : AmoOp → ℕ
amo_funct5 amo.Lr = 0b00010
amo_funct5 amo.Sc = 0b00011
amo_funct5 amo.Swap = 0b00001
amo_funct5 amo.Add = 0b00000
amo_funct5 amo.Xor = 0b00100
amo_funct5 amo.And = 0b01100
amo_funct5 amo.Or = 0b01000
amo_funct5 amo.Min = 0b10000
amo_funct5 amo.Max = 0b10100
amo_funct5 amo.Minu = 0b11000
amo_funct5 amo.Maxu = 0b11100

-- a bit that is set or not
abbrev pub bit_of : Bool → ℕ
bit_of true = 1
bit_of false = 0

-- "RISC-V base opcode map"
abbrev pub opcode_of : Instr → ℕ
opcode_of (instr.Lui i) = 0b0110111
opcode_of (instr.Auipc i) = 0b0010111
opcode_of (instr.Jal i) = 0b1101111
opcode_of (instr.Jalr i) = 0b1100111
opcode_of (instr.Branch i) = 0b1100011
opcode_of (instr.Load i) = 0b0000011
opcode_of (instr.Store i) = 0b0100011
opcode_of (instr.OpImm i) = 0b0010011
opcode_of (instr.Op i) = 0b0110011
opcode_of (instr.Amo i) = 0b0101111
opcode_of (instr.Fence i) = 0b0001111
opcode_of instr.Ecall = 0b1110011
opcode_of instr.Ebreak = 0b1110011

-- the word of an instruction
abbrev pub word_of : Instr → ℕ
word_of (instr.Lui i) = u_type i.imm i.rd (opcode_of (instr.Lui i))
word_of (instr.Auipc i) = u_type i.imm i.rd (opcode_of (instr.Auipc i))
word_of (instr.Jal i) = j_type (in_bits 21 i.offset) i.rd (opcode_of (instr.Jal i))
word_of (instr.Jalr i) = i_type (in_bits 12 i.offset) i.rs1 0b000 i.rd (opcode_of (instr.Jalr i))
word_of (instr.Branch i) =
    b_type (in_bits 13 i.offset) i.rs2 i.rs1 (branch_funct3 i.op) (opcode_of (instr.Branch i))
word_of (instr.Load i) =
    i_type (in_bits 12 i.offset) i.rs1 (load_funct3 i.op) i.rd (opcode_of (instr.Load i))
word_of (instr.Store i) =
    s_type (in_bits 12 i.offset) i.rs2 i.rs1 (store_funct3 i.op) (opcode_of (instr.Store i))
word_of (instr.OpImm i) =
    i_type (immediate_bits i.op i.imm) i.rs1 (alu_funct3 i.op) i.rd (opcode_of (instr.OpImm i))
word_of (instr.Op i) =
    r_type (alu_funct7 i.op) i.rs2 i.rs1 (alu_funct3 i.op) i.rd (opcode_of (instr.Op i))
word_of (instr.Amo i) =
    r_type (amo_funct5 i.op * 2 ^ 2 + bit_of i.labels.aq * 2 + bit_of i.labels.rl) i.rs2 i.rs1 0b010 i.rd (opcode_of (instr.Amo i))
word_of (instr.Fence i) =
    i_type (i.fm * 2 ^ 8 + i.pred * 2 ^ 4 + i.succ) i.rs1 0b000 i.rd (opcode_of (instr.Fence i))
word_of instr.Ecall = i_type 0 0 0b000 0 (opcode_of instr.Ecall)
word_of instr.Ebreak = i_type 1 0 0b000 0 (opcode_of instr.Ebreak)
