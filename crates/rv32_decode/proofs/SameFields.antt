-- Two instructions of one kind are equal where their fields are: the ranges are facts with one proof.
use Rattle.std.proofs.Common.{◌≡◌, ◌%◌, ◌^◌, ◌<◌, IsTrue}
use Rattle.std.proofs.Props.{props}
use mathlib.Core.HLevel.{is_prop→PathP}
use Rattle.dash_base.specs.Ranges.{FitsBits, FitsOffset, FitsImmediate, has_immediate}
use Rattle.dash_base.specs.declared.instr.Amo.{Amo}
use Rattle.dash_base.specs.declared.instr.Branch.{Branch}
use Rattle.dash_base.specs.declared.instr.Fence.{Fence}
use Rattle.dash_base.specs.declared.instr.Jal.{Jal}
use Rattle.dash_base.specs.declared.instr.Jalr.{Jalr}
use Rattle.dash_base.specs.declared.instr.Labels.{Labels}
use Rattle.dash_base.specs.declared.instr.Load.{Load}
use Rattle.dash_base.specs.declared.instr.Op.{Op}
use Rattle.dash_base.specs.declared.instr.OpImm.{OpImm}
use Rattle.dash_base.specs.declared.instr.Store.{Store}
use Rattle.dash_base.specs.declared.instr.Upper.{Upper}
use Rattle.dash_base.specs.declared.ops.AmoOp.TheVariants.{Lr}

pub same_labels : (a b : Labels) → a.aq ≡ b.aq → a.rl ≡ b.rl → a ≡ b
same_labels a b aq rl = λ i. record { aq = aq i; rl = rl i }

pub same_upper : (a b : Upper) → a.rd ≡ b.rd → a.imm ≡ b.imm → a ≡ b
same_upper a b rd imm = λ i. record {
  rd = rd i;
  imm = imm i;
  rd_in_range = is_prop→PathP (λ j. rd j < 32) (λ j. hlevel props) a.rd_in_range b.rd_in_range i;
  imm_in_range = is_prop→PathP (λ j. imm j < 2 ^ 32) (λ j. hlevel props) a.imm_in_range b.imm_in_range i;
  imm_is_upper = is_prop→PathP (λ j. imm j % 2 ^ 12 ≡ 0) (λ j. hlevel props) a.imm_is_upper b.imm_is_upper i;
}

pub same_jal : (a b : Jal) → a.rd ≡ b.rd → a.offset ≡ b.offset → a ≡ b
same_jal a b rd offset = λ i. record {
  rd = rd i;
  offset = offset i;
  rd_in_range = is_prop→PathP (λ j. rd j < 32) (λ j. hlevel props) a.rd_in_range b.rd_in_range i;
  offset_in_range = is_prop→PathP (λ j. FitsOffset 21 (offset j)) (λ j. hlevel props) a.offset_in_range b.offset_in_range i;
}

pub same_jalr : (a b : Jalr) → a.rd ≡ b.rd → a.rs1 ≡ b.rs1 → a.offset ≡ b.offset → a ≡ b
same_jalr a b rd rs1 offset = λ i. record {
  rd = rd i;
  rs1 = rs1 i;
  offset = offset i;
  rd_in_range = is_prop→PathP (λ j. rd j < 32) (λ j. hlevel props) a.rd_in_range b.rd_in_range i;
  rs1_in_range = is_prop→PathP (λ j. rs1 j < 32) (λ j. hlevel props) a.rs1_in_range b.rs1_in_range i;
  offset_in_range = is_prop→PathP (λ j. FitsBits 12 (offset j)) (λ j. hlevel props) a.offset_in_range b.offset_in_range i;
}

pub same_branch : (a b : Branch) → a.op ≡ b.op → a.rs1 ≡ b.rs1 → a.rs2 ≡ b.rs2 → a.offset ≡ b.offset → a ≡ b
same_branch a b op rs1 rs2 offset = λ i. record {
  op = op i;
  rs1 = rs1 i;
  rs2 = rs2 i;
  offset = offset i;
  rs1_in_range = is_prop→PathP (λ j. rs1 j < 32) (λ j. hlevel props) a.rs1_in_range b.rs1_in_range i;
  rs2_in_range = is_prop→PathP (λ j. rs2 j < 32) (λ j. hlevel props) a.rs2_in_range b.rs2_in_range i;
  offset_in_range = is_prop→PathP (λ j. FitsOffset 13 (offset j)) (λ j. hlevel props) a.offset_in_range b.offset_in_range i;
}

pub same_load : (a b : Load) → a.op ≡ b.op → a.rd ≡ b.rd → a.rs1 ≡ b.rs1 → a.offset ≡ b.offset → a ≡ b
same_load a b op rd rs1 offset = λ i. record {
  op = op i;
  rd = rd i;
  rs1 = rs1 i;
  offset = offset i;
  rd_in_range = is_prop→PathP (λ j. rd j < 32) (λ j. hlevel props) a.rd_in_range b.rd_in_range i;
  rs1_in_range = is_prop→PathP (λ j. rs1 j < 32) (λ j. hlevel props) a.rs1_in_range b.rs1_in_range i;
  offset_in_range = is_prop→PathP (λ j. FitsBits 12 (offset j)) (λ j. hlevel props) a.offset_in_range b.offset_in_range i;
}

pub same_store : (a b : Store) → a.op ≡ b.op → a.rs1 ≡ b.rs1 → a.rs2 ≡ b.rs2 → a.offset ≡ b.offset → a ≡ b
same_store a b op rs1 rs2 offset = λ i. record {
  op = op i;
  rs1 = rs1 i;
  rs2 = rs2 i;
  offset = offset i;
  rs1_in_range = is_prop→PathP (λ j. rs1 j < 32) (λ j. hlevel props) a.rs1_in_range b.rs1_in_range i;
  rs2_in_range = is_prop→PathP (λ j. rs2 j < 32) (λ j. hlevel props) a.rs2_in_range b.rs2_in_range i;
  offset_in_range = is_prop→PathP (λ j. FitsBits 12 (offset j)) (λ j. hlevel props) a.offset_in_range b.offset_in_range i;
}

pub same_op_imm : (a b : OpImm) → a.op ≡ b.op → a.rd ≡ b.rd → a.rs1 ≡ b.rs1 → a.imm ≡ b.imm → a ≡ b
same_op_imm a b op rd rs1 imm = λ i. record {
  op = op i;
  rd = rd i;
  rs1 = rs1 i;
  imm = imm i;
  has_form = is_prop→PathP (λ j. IsTrue (has_immediate (op j))) (λ j. hlevel props) a.has_form b.has_form i;
  rd_in_range = is_prop→PathP (λ j. rd j < 32) (λ j. hlevel props) a.rd_in_range b.rd_in_range i;
  rs1_in_range = is_prop→PathP (λ j. rs1 j < 32) (λ j. hlevel props) a.rs1_in_range b.rs1_in_range i;
  imm_in_range = is_prop→PathP (λ j. FitsImmediate (op j) (imm j)) (λ j. hlevel props) a.imm_in_range b.imm_in_range i;
}

pub same_op : (a b : Op) → a.op ≡ b.op → a.rd ≡ b.rd → a.rs1 ≡ b.rs1 → a.rs2 ≡ b.rs2 → a ≡ b
same_op a b op rd rs1 rs2 = λ i. record {
  op = op i;
  rd = rd i;
  rs1 = rs1 i;
  rs2 = rs2 i;
  rd_in_range = is_prop→PathP (λ j. rd j < 32) (λ j. hlevel props) a.rd_in_range b.rd_in_range i;
  rs1_in_range = is_prop→PathP (λ j. rs1 j < 32) (λ j. hlevel props) a.rs1_in_range b.rs1_in_range i;
  rs2_in_range = is_prop→PathP (λ j. rs2 j < 32) (λ j. hlevel props) a.rs2_in_range b.rs2_in_range i;
}

pub same_amo : (a b : Amo) → a.op ≡ b.op → a.labels ≡ b.labels → a.rd ≡ b.rd → a.rs1 ≡ b.rs1 → a.rs2 ≡ b.rs2 → a ≡ b
same_amo a b op labels rd rs1 rs2 = λ i. record {
  op = op i;
  labels = labels i;
  rd = rd i;
  rs1 = rs1 i;
  rs2 = rs2 i;
  rd_in_range = is_prop→PathP (λ j. rd j < 32) (λ j. hlevel props) a.rd_in_range b.rd_in_range i;
  rs1_in_range = is_prop→PathP (λ j. rs1 j < 32) (λ j. hlevel props) a.rs1_in_range b.rs1_in_range i;
  rs2_in_range = is_prop→PathP (λ j. rs2 j < 32) (λ j. hlevel props) a.rs2_in_range b.rs2_in_range i;
  lr_has_no_source = is_prop→PathP (λ j. op j ≡ Lr → rs2 j ≡ 0) (λ j. hlevel props) a.lr_has_no_source b.lr_has_no_source i;
}

pub same_fence : (a b : Fence) → a.fm ≡ b.fm → a.pred ≡ b.pred → a.succ ≡ b.succ → a.rd ≡ b.rd → a.rs1 ≡ b.rs1 → a ≡ b
same_fence a b fm pred succ rd rs1 = λ i. record {
  fm = fm i;
  pred = pred i;
  succ = succ i;
  rd = rd i;
  rs1 = rs1 i;
  fm_in_range = is_prop→PathP (λ j. fm j < 16) (λ j. hlevel props) a.fm_in_range b.fm_in_range i;
  pred_in_range = is_prop→PathP (λ j. pred j < 16) (λ j. hlevel props) a.pred_in_range b.pred_in_range i;
  succ_in_range = is_prop→PathP (λ j. succ j < 16) (λ j. hlevel props) a.succ_in_range b.succ_in_range i;
  rd_in_range = is_prop→PathP (λ j. rd j < 32) (λ j. hlevel props) a.rd_in_range b.rd_in_range i;
  rs1_in_range = is_prop→PathP (λ j. rs1 j < 32) (λ j. hlevel props) a.rs1_in_range b.rs1_in_range i;
}
