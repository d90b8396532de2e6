-- The names of registers and operations, by the RISC-V manual's assembly language.
use Rattle.std.specs.Prelude.{ℕ, ◌/◌, ◌%◌, ◌^◌, ◌==◌, Bool, true, false, if◌then◌else◌, List, [], ◌∷◌, ◌++◌, get_or, codes}
use Rattle.dash_base.specs.declared.ops.AluOp.{AluOp}
use Rattle.dash_base.specs.declared.ops.AluOp.TheVariants as alu
use Rattle.dash_base.specs.declared.ops.AmoOp.{AmoOp}
use Rattle.dash_base.specs.declared.ops.AmoOp.TheVariants as amo
use Rattle.dash_base.specs.declared.ops.BranchOp.{BranchOp}
use Rattle.dash_base.specs.declared.ops.BranchOp.TheVariants.{Beq, Bne, Blt, Bge, Bltu, Bgeu}
use Rattle.dash_base.specs.declared.ops.LoadOp.{LoadOp}
use Rattle.dash_base.specs.declared.ops.LoadOp.TheVariants.{Lb, Lh, Lw, Lbu, Lhu}
use Rattle.dash_base.specs.declared.ops.StoreOp.{StoreOp}
use Rattle.dash_base.specs.declared.ops.StoreOp.TheVariants.{Sb, Sh, Sw}
use Rattle.dash_base.specs.declared.need.HintKind.{HintKind}
use Rattle.dash_base.specs.declared.need.HintKind.TheVariants.{Fetch, Shared, Exclusive}

-- the registers in order, by the names of the ABI
abbrev pub register_names : List (List ℕ)
register_names =
    codes "zero" ∷ codes "ra" ∷ codes "sp" ∷ codes "gp" ∷ codes "tp" ∷ codes "t0" ∷ codes "t1" ∷ codes "t2"
    ∷ codes "s0" ∷ codes "s1" ∷ codes "a0" ∷ codes "a1" ∷ codes "a2" ∷ codes "a3" ∷ codes "a4" ∷ codes "a5"
    ∷ codes "a6" ∷ codes "a7" ∷ codes "s2" ∷ codes "s3" ∷ codes "s4" ∷ codes "s5" ∷ codes "s6" ∷ codes "s7"
    ∷ codes "s8" ∷ codes "s9" ∷ codes "s10" ∷ codes "s11" ∷ codes "t3" ∷ codes "t4" ∷ codes "t5" ∷ codes "t6" ∷ []

unfoldable pub register : ℕ → List ℕ
register number = get_or register_names number []

abbrev pub branch_name : BranchOp → List ℕ
branch_name Beq = codes "beq"
branch_name Bne = codes "bne"
branch_name Blt = codes "blt"
branch_name Bge = codes "bge"
branch_name Bltu = codes "bltu"
branch_name Bgeu = codes "bgeu"

abbrev pub load_name : LoadOp → List ℕ
load_name Lb = codes "lb"
load_name Lh = codes "lh"
load_name Lw = codes "lw"
load_name Lbu = codes "lbu"
load_name Lhu = codes "lhu"

abbrev pub store_name : StoreOp → List ℕ
store_name Sb = codes "sb"
store_name Sh = codes "sh"
store_name Sw = codes "sw"

abbrev pub alu_name : AluOp → List ℕ
alu_name alu.Add = codes "add"
alu_name alu.Sub = codes "sub"
alu_name alu.Sll = codes "sll"
alu_name alu.Slt = codes "slt"
alu_name alu.Sltu = codes "sltu"
alu_name alu.Xor = codes "xor"
alu_name alu.Srl = codes "srl"
alu_name alu.Sra = codes "sra"
alu_name alu.Or = codes "or"
alu_name alu.And = codes "and"
alu_name alu.Mul = codes "mul"
alu_name alu.Mulh = codes "mulh"
alu_name alu.Mulhsu = codes "mulhsu"
alu_name alu.Mulhu = codes "mulhu"
alu_name alu.Div = codes "div"
alu_name alu.Divu = codes "divu"
alu_name alu.Rem = codes "rem"
alu_name alu.Remu = codes "remu"

-- an operation on a register and an immediate; the others have no such form
abbrev pub immediate_name : AluOp → List ℕ
immediate_name alu.Add = codes "addi"
immediate_name alu.Slt = codes "slti"
immediate_name alu.Sltu = codes "sltiu"
immediate_name alu.Xor = codes "xori"
immediate_name alu.Or = codes "ori"
immediate_name alu.And = codes "andi"
immediate_name alu.Sll = codes "slli"
immediate_name alu.Srl = codes "srli"
immediate_name alu.Sra = codes "srai"
immediate_name _ = []

abbrev pub amo_name : AmoOp → List ℕ
amo_name amo.Lr = codes "lr.w"
amo_name amo.Sc = codes "sc.w"
amo_name amo.Swap = codes "amoswap.w"
amo_name amo.Add = codes "amoadd.w"
amo_name amo.Xor = codes "amoxor.w"
amo_name amo.And = codes "amoand.w"
amo_name amo.Or = codes "amoor.w"
amo_name amo.Min = codes "amomin.w"
amo_name amo.Max = codes "amomax.w"
amo_name amo.Minu = codes "amominu.w"
amo_name amo.Maxu = codes "amomaxu.w"

-- the end of an atomic operation's name, by its aq and its rl
abbrev pub label_suffix : Bool → Bool → List ℕ
label_suffix false false = []
label_suffix true false = codes ".aq"
label_suffix false true = codes ".rl"
label_suffix true true = codes ".aqrl"

abbrev pub prefetch_name : HintKind → List ℕ
prefetch_name Fetch = codes "prefetch.i"
prefetch_name Shared = codes "prefetch.r"
prefetch_name Exclusive = codes "prefetch.w"

-- a letter where a bit is set
abbrev pub letter : ℕ → ℕ → List ℕ → List ℕ
letter set bit name = if set / 2 ^ bit % 2 == 1 then name else []

-- what a fence orders: input, output, reads and writes, or 0 for none of them
unfoldable pub fence_set : ℕ → List ℕ
fence_set set =
    if set == 0 then codes "0"
    else letter set 3 (codes "i") ++ letter set 2 (codes "o") ++ letter set 1 (codes "r") ++ letter set 0 (codes "w")
