-- Prefetches: the instructions ORI with destination x0 that are prefetch.i, prefetch.r and prefetch.w (RISC-V manual, extension Zicbop).
use Rattle.std.specs.Prelude.{ℕ, ◌%◌, ◌^◌, ◌==◌, ◌&&◌, Bool, true, false, ℤ, pos, ◌-ℤ◌, Option, Some, None, if◌then◌else◌}
use Rattle.dash_base.specs.declared.instr.Instr.{Instr}
use Rattle.dash_base.specs.declared.instr.Instr.TheVariants as instr
use Rattle.dash_base.specs.declared.instr.OpImm.{OpImm}
use Rattle.dash_base.specs.declared.ops.AluOp.{AluOp}
use Rattle.dash_base.specs.declared.ops.AluOp.TheVariants.{Or}
use Rattle.rv32_decode.specs.Layout.{in_bits}
use Rattle.rv32_decode.specs.declared.prefetch.Hint.{Hint}
use Rattle.dash_base.specs.declared.need.HintKind.{HintKind}
use Rattle.dash_base.specs.declared.need.HintKind.TheVariants.{Fetch, Shared, Exclusive}

-- the low five bits of an immediate of twelve
abbrev pub low_bits : ℤ → ℕ
low_bits imm = in_bits 12 imm % 2 ^ 5

-- an immediate with these bits 0
abbrev pub offset_of : ℤ → ℤ
offset_of imm = imm -ℤ pos (low_bits imm)

-- the kind of a prefetch by these bits
abbrev pub kind_of : ℕ → Option HintKind
kind_of bits =
    if bits == 0 then Some Fetch
    else (if bits == 1 then Some Shared
    else (if bits == 3 then Some Exclusive
    else None))

abbrev pub is_or : AluOp → Bool
is_or Or = true
is_or _ = false

-- the kind of prefetch that an operation on a register and an immediate is
abbrev pub prefetch_kind : OpImm → Option HintKind
prefetch_kind i = if is_or i.op && (i.rd == 0) then kind_of (low_bits i.imm) else None

-- a prefetch of this kind, at the register's value plus the immediate without its low five bits
abbrev pub prefetch_of : OpImm → Option HintKind → Option Hint
prefetch_of i (Some kind) = Some (record { kind = kind; rs1 = i.rs1; offset = offset_of i.imm })
prefetch_of i None = None

-- the prefetch that an instruction is
abbrev pub hint_of : Instr → Option Hint
hint_of (instr.OpImm i) = prefetch_of i (prefetch_kind i)
hint_of _ = None
