-- Within a row of the table, the mnemonic and the operands tell the word.
use Rattle.std.proofs.Common.{◌≡◌, ℕ, ◌/◌, ◌<◌, List, refl, sym, ◌∙◌, arith, div-le_self}
use Rattle.std.proofs.lemmas.Fmt.{decimal_injective}
use Rattle.dash_base.specs.declared.instr.Amo.{Amo}
use Rattle.dash_base.specs.declared.instr.Branch.{Branch}
use Rattle.dash_base.specs.declared.instr.Instr.TheVariants as instr
use Rattle.dash_base.specs.declared.instr.Jal.{Jal}
use Rattle.dash_base.specs.declared.instr.Jalr.{Jalr}
use Rattle.dash_base.specs.declared.instr.Load.{Load}
use Rattle.dash_base.specs.declared.instr.Op.{Op}
use Rattle.dash_base.specs.declared.instr.Store.{Store}
use Rattle.dash_base.specs.declared.instr.Upper.{Upper}
use Rattle.dash_base.specs.declared.ops.AmoOp.{AmoOp}
use Rattle.dash_base.specs.declared.ops.AmoOp.TheVariants as amo
use Rattle.rv32_decode.specs.Layout.{word_of}
use Rattle.rv32_text.proofs.Mnemonics.{branch, load, store, registers, atomic}
use Rattle.rv32_text.proofs.Operands.{base_words, operands_of, with_source}
use Rattle.rv32_text.proofs.Pieces.{same_register, same_number}

upper_immediate : (a b : Upper) → operands_of (instr.Lui a) ≡ operands_of (instr.Lui b) → a.imm / 4096 ≡ b.imm / 4096
upper_immediate a b e =
    let a_below = div-le_self a.imm 4096 in
    let b_below = div-le_self b.imm 4096 in
    let a_in_range = a.imm_in_range in
    let b_in_range = b.imm_in_range in
    decimal_injective (a.imm / 4096) (b.imm / 4096) (omega arith) (omega arith) (cc)

pub one_lui : (a b : Upper) → operands_of (instr.Lui a) ≡ operands_of (instr.Lui b) → word_of (instr.Lui a) ≡ word_of (instr.Lui b)
one_lui a b e =
    let rd = same_register a.rd b.rd a.rd_in_range b.rd_in_range (cc) in
    let imm = upper_immediate a b e in
    cc

pub one_auipc : (a b : Upper) → operands_of (instr.Auipc a) ≡ operands_of (instr.Auipc b) → word_of (instr.Auipc a) ≡ word_of (instr.Auipc b)
one_auipc a b e =
    let rd = same_register a.rd b.rd a.rd_in_range b.rd_in_range (cc) in
    let imm = upper_immediate a b e in
    cc

pub one_jal : (a b : Jal) → operands_of (instr.Jal a) ≡ operands_of (instr.Jal b) → word_of (instr.Jal a) ≡ word_of (instr.Jal b)
one_jal a b e =
    let rd = same_register a.rd b.rd a.rd_in_range b.rd_in_range (cc) in
    let offset = same_number 21 a.offset b.offset (omega arith) a.offset_in_range.fits b.offset_in_range.fits (cc) in
    cc

pub one_jalr : (a b : Jalr) → operands_of (instr.Jalr a) ≡ operands_of (instr.Jalr b) → word_of (instr.Jalr a) ≡ word_of (instr.Jalr b)
one_jalr a b e =
    let rd = same_register a.rd b.rd a.rd_in_range b.rd_in_range (cc) in
    let rs1 = same_register a.rs1 b.rs1 a.rs1_in_range b.rs1_in_range (cc) in
    let offset = same_number 12 a.offset b.offset (omega arith) a.offset_in_range b.offset_in_range (cc) in
    cc

pub one_branch : (a b : Branch) → branch a.op ≡ branch b.op → operands_of (instr.Branch a) ≡ operands_of (instr.Branch b)
    → word_of (instr.Branch a) ≡ word_of (instr.Branch b)
one_branch a b name e =
    let op : a.op ≡ b.op = cc in
    let rs1 = same_register a.rs1 b.rs1 a.rs1_in_range b.rs1_in_range (cc) in
    let rs2 = same_register a.rs2 b.rs2 a.rs2_in_range b.rs2_in_range (cc) in
    let offset = same_number 13 a.offset b.offset (omega arith) a.offset_in_range.fits b.offset_in_range.fits (cc) in
    cc

pub one_load : (a b : Load) → load a.op ≡ load b.op → operands_of (instr.Load a) ≡ operands_of (instr.Load b)
    → word_of (instr.Load a) ≡ word_of (instr.Load b)
one_load a b name e =
    let op : a.op ≡ b.op = cc in
    let rd = same_register a.rd b.rd a.rd_in_range b.rd_in_range (cc) in
    let rs1 = same_register a.rs1 b.rs1 a.rs1_in_range b.rs1_in_range (cc) in
    let offset = same_number 12 a.offset b.offset (omega arith) a.offset_in_range b.offset_in_range (cc) in
    cc

pub one_store : (a b : Store) → store a.op ≡ store b.op → operands_of (instr.Store a) ≡ operands_of (instr.Store b)
    → word_of (instr.Store a) ≡ word_of (instr.Store b)
one_store a b name e =
    let op : a.op ≡ b.op = cc in
    let rs2 = same_register a.rs2 b.rs2 a.rs2_in_range b.rs2_in_range (cc) in
    let rs1 = same_register a.rs1 b.rs1 a.rs1_in_range b.rs1_in_range (cc) in
    let offset = same_number 12 a.offset b.offset (omega arith) a.offset_in_range b.offset_in_range (cc) in
    cc

pub one_op : (a b : Op) → registers a.op ≡ registers b.op → operands_of (instr.Op a) ≡ operands_of (instr.Op b)
    → word_of (instr.Op a) ≡ word_of (instr.Op b)
one_op a b name e =
    let op : a.op ≡ b.op = cc in
    let rd = same_register a.rd b.rd a.rd_in_range b.rd_in_range (cc) in
    let rs1 = same_register a.rs1 b.rs1 a.rs1_in_range b.rs1_in_range (cc) in
    let rs2 = same_register a.rs2 b.rs2 a.rs2_in_range b.rs2_in_range (cc) in
    cc

-- the source of an atomic operation, which is 0 where it is not written, and the words behind it
same_source : (op : AmoOp) (m n : ℕ) (v w : List (List ℕ)) → m < 32 → n < 32 → (op ≡ amo.Lr → m ≡ 0) → (op ≡ amo.Lr → n ≡ 0)
    → with_source op m v ≡ with_source op n w → (m ≡ n) × (v ≡ w)
same_source amo.Lr m n v w m_below n_below m_none n_none e = (m_none refl ∙ sym (n_none refl), e)
same_source _ m n v w m_below n_below m_none n_none e = (same_register m n m_below n_below (cc), cc)

pub one_amo : (a b : Amo) → atomic a.op a.labels.aq a.labels.rl ≡ atomic b.op b.labels.aq b.labels.rl
    → operands_of (instr.Amo a) ≡ operands_of (instr.Amo b) → word_of (instr.Amo a) ≡ word_of (instr.Amo b)
one_amo a b name e =
    let op : a.op ≡ b.op = cc in
    let aq : a.labels.aq ≡ b.labels.aq = cc in
    let rl : a.labels.rl ≡ b.labels.rl = cc in
    let rd = same_register a.rd b.rd a.rd_in_range b.rd_in_range (cc) in
    let source = same_source a.op a.rs2 b.rs2 (base_words a.rs1) (base_words b.rs1) a.rs2_in_range b.rs2_in_range a.lr_has_no_source (λ lr. b.lr_has_no_source (sym op ∙ lr)) (cc) in
    let rs2 = source.0 in
    let others = source.1 in
    let rs1 = same_register a.rs1 b.rs1 a.rs1_in_range b.rs1_in_range (cc) in
    cc
