-- The state of a hart.
use Rattle.std.specs.Prelude.{ℕ, ◌+◌, ◌==◌, Bool, true, false, ◌&&◌, nat_lt, if◌then◌else◌, List, slice_index, slice_set}
use Rattle.dash_base.specs.declared.end.End.{End}
use Rattle.dash_base.specs.declared.end.End.TheVariants as end
use Rattle.dash_base.specs.declared.topology.Topology.{Topology}

-- a program counter, 32 registers, how many instructions have retired, and whether it ended
pub record HartState : Type 0 where
  pub pc : ℕ
  pub registers : List ℕ
  pub retired : ℕ
  pub end : End

abbrev pub reg : HartState → ℕ → ℕ
reg h r = slice_index h.registers r

-- a register written; register 0 is never changed
abbrev pub with_register : HartState → ℕ → ℕ → HartState
with_register h rd value =
    record h { registers = if rd == 0 then h.registers else slice_set h.registers rd value }

-- the next instruction is the one at an address, and one more has retired
abbrev pub retired_to : HartState → ℕ → HartState
retired_to h target = record h { pc = target; retired = h.retired + 1 }

abbrev pub is_running : End → Bool
is_running end.Running = true
is_running _ = false

-- it has not ended, and has instructions left to retire
abbrev pub can_go_on : Topology → HartState → Bool
can_go_on t h = is_running h.end && nat_lt h.retired t.budget
