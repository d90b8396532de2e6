-- The ranges that the fields of an instruction keep.
use Rattle.std.specs.Prelude.{◌≡◌, ℕ, ◌-◌, ◌%◌, ◌^◌, Bool, true, false, ℤ, pos, neg_ℤ, ◌≤ℤ◌, ◌<ℤ◌, unsigned_abs}
use Rattle.dash_base.specs.declared.ops.AluOp.{AluOp}
use Rattle.dash_base.specs.declared.ops.AluOp.TheVariants.{Add, Sll, Slt, Sltu, Xor, Srl, Sra, Or, And}

-- a signed number that fits so many bits
pub record FitsBits (width : ℕ) (z : ℤ) : Type 0 where
  pub low : neg_ℤ (pos (2 ^ (width - 1))) ≤ℤ z
  pub high : z <ℤ pos (2 ^ (width - 1))

-- an even one, as the offset of a branch or a jump
pub record FitsOffset (width : ℕ) (z : ℤ) : Type 0 where
  pub fits : FitsBits width z
  pub even : unsigned_abs z % 2 ≡ 0

-- the operations that have a form with an immediate
abbrev pub has_immediate : AluOp → Bool
has_immediate Add = true
has_immediate Slt = true
has_immediate Sltu = true
has_immediate Xor = true
has_immediate Or = true
has_immediate And = true
has_immediate Sll = true
has_immediate Srl = true
has_immediate Sra = true
has_immediate _ = false

-- the least immediate of an operation: a shift's amount is from 0 to 31, any other has 12 signed bits
abbrev pub lowest_immediate : AluOp → ℤ
lowest_immediate Sll = pos 0
lowest_immediate Srl = pos 0
lowest_immediate Sra = pos 0
lowest_immediate _ = neg_ℤ (pos 2048)

-- the least number above the immediates of an operation
abbrev pub immediate_limit : AluOp → ℤ
immediate_limit Sll = pos 32
immediate_limit Srl = pos 32
immediate_limit Sra = pos 32
immediate_limit _ = pos 2048

-- an immediate that the operation can have
pub record FitsImmediate (op : AluOp) (z : ℤ) : Type 0 where
  pub low : lowest_immediate op ≤ℤ z
  pub high : z <ℤ immediate_limit op
