-- How far what stands before a line can have come.
use Rattle.std.specs.Prelude.{ℕ, ◌≤◌}
use Rattle.rv32_asm.specs.declared.here.Here.{Here}

-- no more than 16,777,216 bytes and 64 segments
pub record IsWithin (here : Here) : Type 0 where
  pub bytes : here.total ≤ 16777216
  pub segments : here.segments ≤ 64
