-- What stands in a spelling: its mnemonic, and the words of its operands.
use Rattle.std.proofs.Common.{ℕ, ◌/◌, List, [], ◌∷◌, Option, Some, None, decimal}
use Rattle.std.specs.Fmt.{signed_decimal}
use Rattle.dash_base.specs.declared.instr.Instr.{Instr}
use Rattle.dash_base.specs.declared.instr.Instr.TheVariants as instr
use Rattle.dash_base.specs.declared.instr.OpImm.{OpImm}
use Rattle.dash_base.specs.declared.ops.AluOp.{AluOp}
use Rattle.dash_base.specs.declared.ops.AmoOp.{AmoOp}
use Rattle.dash_base.specs.declared.ops.AmoOp.TheVariants as amo
use Rattle.rv32_decode.specs.Hints.{offset_of, prefetch_kind}
use Rattle.dash_base.specs.declared.need.HintKind.{HintKind}
use Rattle.rv32_text.specs.Names.{register, fence_set}
use Rattle.rv32_text.proofs.Mnemonics.{Mnemonic, lui, auipc, jal, jalr, branch, load, store, immediate, registers, atomic, fence, ecall, ebreak, prefetch}

-- an operation on a register and an immediate has the mnemonic of the prefetch that it is
abbrev pub immediate_mnemonic : AluOp → Option HintKind → Mnemonic
immediate_mnemonic op (Some kind) = prefetch kind
immediate_mnemonic op None = immediate op

-- by the rows of the table
abbrev pub mnemonic_of : Instr → Mnemonic
mnemonic_of (instr.Lui i) = lui
mnemonic_of (instr.Auipc i) = auipc
mnemonic_of (instr.Jal i) = jal
mnemonic_of (instr.Jalr i) = jalr
mnemonic_of (instr.Branch i) = branch i.op
mnemonic_of (instr.Load i) = load i.op
mnemonic_of (instr.Store i) = store i.op
mnemonic_of (instr.OpImm i) = immediate_mnemonic i.op (prefetch_kind i)
mnemonic_of (instr.Op i) = registers i.op
mnemonic_of (instr.Amo i) = atomic i.op i.labels.aq i.labels.rl
mnemonic_of (instr.Fence i) = fence
mnemonic_of instr.Ecall = ecall
mnemonic_of instr.Ebreak = ebreak

-- words with the source of an atomic operation in front, where it has one
abbrev pub with_source : AmoOp → ℕ → List (List ℕ) → List (List ℕ)
with_source amo.Lr rs2 ws = ws
with_source _ rs2 ws = register rs2 ∷ ws

-- `(RS1)`, with an empty word on both sides
abbrev pub base_words : ℕ → List (List ℕ)
base_words rs1 = [] ∷ register rs1 ∷ [] ∷ []

-- those of an operation on a register and an immediate, and of a prefetch
abbrev pub immediate_operands : OpImm → Option HintKind → List (List ℕ)
immediate_operands i (Some kind) = signed_decimal (offset_of i.imm) ∷ register i.rs1 ∷ [] ∷ []
immediate_operands i None = register i.rd ∷ register i.rs1 ∷ signed_decimal i.imm ∷ []

-- the words behind the mnemonic: an empty one where two marks stand together, or a mark ends the text
abbrev pub operands_of : Instr → List (List ℕ)
operands_of (instr.Lui i) = register i.rd ∷ decimal (i.imm / 4096) ∷ []
operands_of (instr.Auipc i) = register i.rd ∷ decimal (i.imm / 4096) ∷ []
operands_of (instr.Jal i) = register i.rd ∷ signed_decimal i.offset ∷ []
operands_of (instr.Jalr i) = register i.rd ∷ signed_decimal i.offset ∷ register i.rs1 ∷ [] ∷ []
operands_of (instr.Branch i) = register i.rs1 ∷ register i.rs2 ∷ signed_decimal i.offset ∷ []
operands_of (instr.Load i) = register i.rd ∷ signed_decimal i.offset ∷ register i.rs1 ∷ [] ∷ []
operands_of (instr.Store i) = register i.rs2 ∷ signed_decimal i.offset ∷ register i.rs1 ∷ [] ∷ []
operands_of (instr.OpImm i) = immediate_operands i (prefetch_kind i)
operands_of (instr.Op i) = register i.rd ∷ register i.rs1 ∷ register i.rs2 ∷ []
operands_of (instr.Amo i) = register i.rd ∷ with_source i.op i.rs2 (base_words i.rs1)
operands_of (instr.Fence i) = fence_set i.pred ∷ fence_set i.succ ∷ []
operands_of instr.Ecall = []
operands_of instr.Ebreak = []
