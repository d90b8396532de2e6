-- No two instructions have one word.
use Rattle.std.proofs.Common.{◌≡◌, ◌%◌, ◌^◌, ◌<◌, Bool, arith, refl, ap, sym, ◌∙◌}
use Rattle.dash_base.specs.declared.instr.Amo.{Amo}
use Rattle.dash_base.specs.declared.instr.Branch.{Branch}
use Rattle.dash_base.specs.declared.instr.Fence.{Fence}
use Rattle.dash_base.specs.declared.instr.Instr.{Instr}
use Rattle.dash_base.specs.declared.instr.Instr.TheVariants as instr
use Rattle.dash_base.specs.declared.instr.Jal.{Jal}
use Rattle.dash_base.specs.declared.instr.Jalr.{Jalr}
use Rattle.dash_base.specs.declared.instr.Load.{Load}
use Rattle.dash_base.specs.declared.instr.Op.{Op}
use Rattle.dash_base.specs.declared.instr.OpImm.{OpImm}
use Rattle.dash_base.specs.declared.instr.Store.{Store}
use Rattle.dash_base.specs.declared.instr.Upper.{Upper}
use Rattle.dash_base.specs.declared.ops.AluOp.{AluOp}
use Rattle.dash_base.specs.declared.ops.AmoOp.{AmoOp}
use Rattle.dash_base.specs.declared.ops.BranchOp.{BranchOp}
use Rattle.dash_base.specs.declared.ops.LoadOp.{LoadOp}
use Rattle.dash_base.specs.declared.ops.StoreOp.{StoreOp}
use Rattle.rv32_decode.specs.Layout.{alu_funct3, alu_funct7, amo_funct5, bit_of, branch_funct3, immediate_bits, load_funct3, opcode_of, store_funct3, word_of}
use Rattle.rv32_decode.proofs.SameFields.{same_upper, same_jal, same_jalr, same_branch, same_load, same_store, same_op_imm, same_op, same_amo, same_fence, same_labels}

-- The tables tell the operations apart.
same_branch_op : (a b : BranchOp) → branch_funct3 a ≡ branch_funct3 b → a ≡ b
same_branch_op a b e = grind arith

same_load_op : (a b : LoadOp) → load_funct3 a ≡ load_funct3 b → a ≡ b
same_load_op a b e = grind arith

same_store_op : (a b : StoreOp) → store_funct3 a ≡ store_funct3 b → a ≡ b
same_store_op a b e = grind arith

same_alu_op : (a b : AluOp) → alu_funct3 a ≡ alu_funct3 b → alu_funct7 a ≡ alu_funct7 b → a ≡ b
same_alu_op a b funct3 funct7 = grind arith

same_amo_op : (a b : AmoOp) → amo_funct5 a ≡ amo_funct5 b → a ≡ b
same_amo_op a b e = grind arith

same_bit : (a b : Bool) → bit_of a ≡ bit_of b → a ≡ b
same_bit a b e = grind arith

funct3_in_range : (op : AluOp) → alu_funct3 op < 2 ^ 3
funct3_in_range op = grind arith

-- The bits of an immediate, with those of funct3, tell it and its operation.
immediate_in_range : (i : OpImm) → immediate_bits i.op i.imm < 2 ^ 12
immediate_in_range i = grind arith

same_immediate_op : (a b : OpImm) → alu_funct3 a.op ≡ alu_funct3 b.op
    → immediate_bits a.op a.imm ≡ immediate_bits b.op b.imm → a.op ≡ b.op
same_immediate_op a b funct3 bits = grind arith

same_immediate : (a b : OpImm) → a.op ≡ b.op
    → immediate_bits a.op a.imm ≡ immediate_bits b.op b.imm → a.imm ≡ b.imm
same_immediate a b op bits = grind arith

-- Within a format, the word tells each field.
one_lui : (a b : Upper) → word_of (instr.Lui a) ≡ word_of (instr.Lui b) → a ≡ b
one_lui a b e = same_upper a b (grind arith) (grind arith)

one_auipc : (a b : Upper) → word_of (instr.Auipc a) ≡ word_of (instr.Auipc b) → a ≡ b
one_auipc a b e = same_upper a b (grind arith) (grind arith)

one_jal : (a b : Jal) → word_of (instr.Jal a) ≡ word_of (instr.Jal b) → a ≡ b
one_jal a b e = same_jal a b (grind arith) (grind arith)

one_jalr : (a b : Jalr) → word_of (instr.Jalr a) ≡ word_of (instr.Jalr b) → a ≡ b
one_jalr a b e = same_jalr a b (grind arith) (grind arith) (grind arith)

one_branch : (a b : Branch) → word_of (instr.Branch a) ≡ word_of (instr.Branch b) → a ≡ b
one_branch a b e =
    same_branch a b (same_branch_op a.op b.op (grind arith)) (grind arith) (grind arith) (grind arith)

one_load : (a b : Load) → word_of (instr.Load a) ≡ word_of (instr.Load b) → a ≡ b
one_load a b e =
    same_load a b (same_load_op a.op b.op (grind arith)) (grind arith) (grind arith) (grind arith)

one_store : (a b : Store) → word_of (instr.Store a) ≡ word_of (instr.Store b) → a ≡ b
one_store a b e =
    same_store a b (same_store_op a.op b.op (grind arith)) (grind arith) (grind arith) (grind arith)

one_op_imm : (a b : OpImm) → word_of (instr.OpImm a) ≡ word_of (instr.OpImm b) → a ≡ b
one_op_imm a b e =
    let a_fits = immediate_in_range a in
    let b_fits = immediate_in_range b in
    let a_op_fits = funct3_in_range a.op in
    let b_op_fits = funct3_in_range b.op in
    let bits : immediate_bits a.op a.imm ≡ immediate_bits b.op b.imm = omega arith in
    let op : a.op ≡ b.op = same_immediate_op a b (omega arith) bits in
    same_op_imm a b op (omega arith) (omega arith) (same_immediate a b op bits)

one_op : (a b : Op) → word_of (instr.Op a) ≡ word_of (instr.Op b) → a ≡ b
one_op a b e =
    same_op a b (same_alu_op a.op b.op (grind arith) (grind arith)) (grind arith) (grind arith) (grind arith)

one_amo : (a b : Amo) → word_of (instr.Amo a) ≡ word_of (instr.Amo b) → a ≡ b
one_amo a b e =
    let labels = same_labels a.labels b.labels (same_bit _ _ (grind arith)) (same_bit _ _ (grind arith)) in
    same_amo a b (same_amo_op a.op b.op (grind arith)) labels (grind arith) (grind arith) (grind arith)

one_fence : (a b : Fence) → word_of (instr.Fence a) ≡ word_of (instr.Fence b) → a ≡ b
one_fence a b e =
    same_fence a b (grind arith) (grind arith) (grind arith) (grind arith) (grind arith)

-- A word ends with its opcode, which tells the formats apart.
opcode_last : (i : Instr) → word_of i % 2 ^ 7 ≡ opcode_of i
opcode_last i = grind arith

same_opcode : (i j : Instr) → word_of i ≡ word_of j → opcode_of i ≡ opcode_of j
same_opcode i j e = sym (opcode_last i) ∙ ap (λ n. n % 2 ^ 7) e ∙ opcode_last j

pub one_word : (i j : Instr) → word_of i ≡ word_of j → i ≡ j
one_word (instr.Lui a) (instr.Lui b) e = ap instr.Lui (one_lui a b e)
one_word (instr.Auipc a) (instr.Auipc b) e = ap instr.Auipc (one_auipc a b e)
one_word (instr.Jal a) (instr.Jal b) e = ap instr.Jal (one_jal a b e)
one_word (instr.Jalr a) (instr.Jalr b) e = ap instr.Jalr (one_jalr a b e)
one_word (instr.Branch a) (instr.Branch b) e = ap instr.Branch (one_branch a b e)
one_word (instr.Load a) (instr.Load b) e = ap instr.Load (one_load a b e)
one_word (instr.Store a) (instr.Store b) e = ap instr.Store (one_store a b e)
one_word (instr.OpImm a) (instr.OpImm b) e = ap instr.OpImm (one_op_imm a b e)
one_word (instr.Op a) (instr.Op b) e = ap instr.Op (one_op a b e)
one_word (instr.Amo a) (instr.Amo b) e = ap instr.Amo (one_amo a b e)
one_word (instr.Fence a) (instr.Fence b) e = ap instr.Fence (one_fence a b e)
one_word instr.Ecall instr.Ecall e = refl
one_word instr.Ebreak instr.Ebreak e = refl
one_word i j e = absurd (let o : opcode_of i ≡ opcode_of j = same_opcode i j e in omega arith)
