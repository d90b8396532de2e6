-- The spelling of an instruction: its name, a space, and its operands with commas between them.
use Rattle.std.specs.Prelude.{ℕ, ◌/◌, ℤ, List, [], ◌++◌, codes, decimal, Option, Some, None}
use Rattle.std.specs.Fmt.{signed_decimal}
use Rattle.dash_base.specs.declared.instr.Amo.{Amo}
use Rattle.dash_base.specs.declared.instr.Instr.{Instr}
use Rattle.dash_base.specs.declared.instr.Instr.TheVariants as instr
use Rattle.dash_base.specs.declared.ops.AmoOp.{AmoOp}
use Rattle.dash_base.specs.declared.ops.AmoOp.TheVariants.{Lr}
use Rattle.rv32_decode.specs.declared.prefetch.Hint.{Hint}
use Rattle.rv32_decode.specs.Hints.{hint_of}
use Rattle.rv32_text.specs.Names.{register, branch_name, load_name, store_name, alu_name, immediate_name, amo_name, label_suffix, prefetch_name, fence_set}

-- `OFFSET(BASE)`
unfoldable pub place : ℤ → ℕ → List ℕ
place offset base = signed_decimal offset ++ codes "(" ++ register base ++ codes ")"

-- `NAME RD,IMM`, the immediate without its low 12 bits
unfoldable pub upper_text : List ℕ → ℕ → ℕ → List ℕ
upper_text name rd imm = name ++ codes " " ++ register rd ++ codes "," ++ decimal (imm / 4096)

-- `jal RD,OFFSET`
unfoldable pub jal_text : ℕ → ℤ → List ℕ
jal_text rd offset = codes "jal " ++ register rd ++ codes "," ++ signed_decimal offset

-- `NAME A,OFFSET(BASE)`
unfoldable pub place_text : List ℕ → ℕ → ℤ → ℕ → List ℕ
place_text name a offset base = name ++ codes " " ++ register a ++ codes "," ++ place offset base

-- `NAME A,B,NUMBER`
unfoldable pub number_text : List ℕ → ℕ → ℕ → ℤ → List ℕ
number_text name a b number =
    name ++ codes " " ++ register a ++ codes "," ++ register b ++ codes "," ++ signed_decimal number

-- `NAME A,B,C`
unfoldable pub registers_text : List ℕ → ℕ → ℕ → ℕ → List ℕ
registers_text name a b c =
    name ++ codes " " ++ register a ++ codes "," ++ register b ++ codes "," ++ register c

-- the operand that an atomic operation has from a register: all but LR have one
abbrev pub source_text : AmoOp → ℕ → List ℕ
source_text Lr rs2 = []
source_text _ rs2 = register rs2 ++ codes ","

-- `NAMELABELS RD,RS2,(RS1)`
unfoldable pub amo_text : Amo → List ℕ
amo_text i =
    amo_name i.op ++ label_suffix i.labels.aq i.labels.rl ++ codes " "
    ++ register i.rd ++ codes "," ++ source_text i.op i.rs2 ++ codes "(" ++ register i.rs1 ++ codes ")"

-- `fence PRED,SUCC`
unfoldable pub fence_text : ℕ → ℕ → List ℕ
fence_text pred succ = codes "fence " ++ fence_set pred ++ codes "," ++ fence_set succ

-- `NAME OFFSET(BASE)`
unfoldable pub hint_text : Hint → List ℕ
hint_text h = prefetch_name h.kind ++ codes " " ++ place h.offset h.rs1

-- an instruction by its fields
abbrev pub instr_text : Instr → List ℕ
instr_text (instr.Lui i) = upper_text (codes "lui") i.rd i.imm
instr_text (instr.Auipc i) = upper_text (codes "auipc") i.rd i.imm
instr_text (instr.Jal i) = jal_text i.rd i.offset
instr_text (instr.Jalr i) = place_text (codes "jalr") i.rd i.offset i.rs1
instr_text (instr.Branch i) = number_text (branch_name i.op) i.rs1 i.rs2 i.offset
instr_text (instr.Load i) = place_text (load_name i.op) i.rd i.offset i.rs1
instr_text (instr.Store i) = place_text (store_name i.op) i.rs2 i.offset i.rs1
instr_text (instr.OpImm i) = number_text (immediate_name i.op) i.rd i.rs1 i.imm
instr_text (instr.Op i) = registers_text (alu_name i.op) i.rd i.rs1 i.rs2
instr_text (instr.Amo i) = amo_text i
instr_text (instr.Fence i) = fence_text i.pred i.succ
instr_text instr.Ecall = codes "ecall"
instr_text instr.Ebreak = codes "ebreak"

-- the text of a prefetch, where there is one
abbrev pub hint_or : Option Hint → List ℕ → List ℕ
hint_or (Some h) other = hint_text h
hint_or None other = other

-- the spelling of an instruction; a prefetch has its own
abbrev pub text_of : Instr → List ℕ
text_of i = hint_or (hint_of i) (instr_text i)
