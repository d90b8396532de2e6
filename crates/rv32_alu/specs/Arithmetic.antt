-- The value of an operation on two words, whether a branch is taken, and what an atomic operation writes (RISC-V unprivileged manual, "Integer Computational Instructions", "Multiplication Operations", "Division Operations", "Conditional Branches" and "Atomic Memory Operations").
use Rattle.std.specs.Prelude.{ℕ, ◌+◌, ◌-◌, ◌*◌, ◌/◌, ◌%◌, ◌^◌, ◌==◌, ◌&&◌, Bool, true, false, not, nat_lt, int_lt, if◌then◌else◌, bit_and, bit_or, bit_xor, ℤ, pos, ◌*ℤ◌, int_div, int_rem}
use Rattle.std.specs.Int.{w32, cast_signed, cast_unsigned, int_shr}
use Rattle.dash_base.specs.declared.ops.AluOp.{AluOp}
use Rattle.dash_base.specs.declared.ops.AluOp.TheVariants as alu
use Rattle.dash_base.specs.declared.ops.AmoOp.{AmoOp}
use Rattle.dash_base.specs.declared.ops.AmoOp.TheVariants as amo
use Rattle.dash_base.specs.declared.ops.BranchOp.{BranchOp}
use Rattle.dash_base.specs.declared.ops.BranchOp.TheVariants as branch

-- the number of which a word is the two's complement
abbrev pub signed : ℕ → ℤ
signed a = cast_signed w32 a

-- whether one word is below another, as signed numbers
abbrev pub is_less : ℕ → ℕ → Bool
is_less a b = int_lt (signed a) (signed b)

abbrev pub bit_of : Bool → ℕ
bit_of b = if b then 1 else 0

-- a word plus a signed number, in 32 bits
abbrev pub moved_by : ℕ → ℤ → ℕ
moved_by a z = (a + cast_unsigned w32 z) % 2 ^ 32

-- the upper half of a product of two words: bits 32 to 63 of its two's complement, which are the product divided by 2 ^ 32, rounded down
abbrev pub upper_half : ℤ → ℕ
upper_half product = cast_unsigned w32 (int_shr product 32)

-- the least signed number by -1, whose quotient is no signed number of 32 bits
abbrev pub overflows : ℕ → ℕ → Bool
overflows a b = (a == 2 ^ 31) && (b == 2 ^ 32 - 1)

-- the quotient rounded towards zero; all bits set where the divisor is 0, and the dividend on overflow
abbrev pub quotient : ℕ → ℕ → ℕ
quotient a b =
    if b == 0 then 2 ^ 32 - 1
    else (if overflows a b then 2 ^ 31
    else cast_unsigned w32 (int_div (signed a) (signed b)))

-- the remainder, with the sign of the dividend; the dividend where the divisor is 0, and 0 on overflow
abbrev pub remainder : ℕ → ℕ → ℕ
remainder a b =
    if b == 0 then a
    else (if overflows a b then 0
    else cast_unsigned w32 (int_rem (signed a) (signed b)))

abbrev pub alu_value : AluOp → ℕ → ℕ → ℕ
alu_value alu.Add a b = (a + b) % 2 ^ 32
alu_value alu.Sub a b = (a + (2 ^ 32 - b)) % 2 ^ 32
alu_value alu.Sll a b = a * 2 ^ (b % 32) % 2 ^ 32
alu_value alu.Slt a b = bit_of (is_less a b)
alu_value alu.Sltu a b = bit_of (nat_lt a b)
alu_value alu.Xor a b = bit_xor a b
alu_value alu.Srl a b = a / 2 ^ (b % 32)
alu_value alu.Sra a b = cast_unsigned w32 (int_shr (signed a) (b % 32))
alu_value alu.Or a b = bit_or a b
alu_value alu.And a b = bit_and a b
alu_value alu.Mul a b = a * b % 2 ^ 32
alu_value alu.Mulh a b = upper_half (signed a *ℤ signed b)
alu_value alu.Mulhsu a b = upper_half (signed a *ℤ pos b)
alu_value alu.Mulhu a b = a * b / 2 ^ 32
alu_value alu.Div a b = quotient a b
alu_value alu.Divu a b = if b == 0 then 2 ^ 32 - 1 else a / b
alu_value alu.Rem a b = remainder a b
alu_value alu.Remu a b = if b == 0 then a else a % b

abbrev pub is_taken : BranchOp → ℕ → ℕ → Bool
is_taken branch.Beq a b = a == b
is_taken branch.Bne a b = not (a == b)
is_taken branch.Blt a b = is_less a b
is_taken branch.Bge a b = not (is_less a b)
is_taken branch.Bltu a b = nat_lt a b
is_taken branch.Bgeu a b = not (nat_lt a b)

-- an operation that writes a value whatever it reads: all but LR and SC
abbrev pub is_amo : AmoOp → Bool
is_amo amo.Lr = false
is_amo amo.Sc = false
is_amo _ = true

-- the word that an atomic operation leaves, from the one that it found and its operand; for LR and SC no call asks
abbrev pub amo_value : AmoOp → ℕ → ℕ → ℕ
amo_value amo.Swap old operand = operand
amo_value amo.Add old operand = (old + operand) % 2 ^ 32
amo_value amo.Xor old operand = bit_xor old operand
amo_value amo.And old operand = bit_and old operand
amo_value amo.Or old operand = bit_or old operand
amo_value amo.Min old operand = if is_less old operand then old else operand
amo_value amo.Max old operand = if is_less old operand then operand else old
amo_value amo.Minu old operand = if nat_lt old operand then old else operand
amo_value amo.Maxu old operand = if nat_lt old operand then operand else old
amo_value _ old operand = old
