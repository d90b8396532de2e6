-- Harts as a run begins.
use Rattle.std.specs.Prelude.{ℕ, ◌+◌, ◌-◌, ◌*◌, List, replicate, slice_set}
use Rattle.dash_base.specs.declared.end.End.TheVariants.{Running}
use Rattle.dash_base.specs.declared.topology.Topology.{Topology}
use Rattle.dash_base.specs.Places.{hart_count}
use Rattle.elf_load.specs.Image.{ImageView}
use Rattle.hart_core.specs.HartState.{HartState}

-- the registers at the start: sp (x2) at the top of the hart's stack, a0 (x10) its number, a1 (x11) how many harts there are
abbrev pub opening_registers : Topology → ℕ → List ℕ
opening_registers t number =
    slice_set (slice_set (slice_set (replicate 32 0) 2 (t.base + t.memory - number * t.stack)) 10 number) 11 (hart_count t)

-- the hart with a number, at the image's entry
abbrev pub opening_hart : ImageView → Topology → ℕ → HartState
opening_hart image t number =
    record { pc = image.entry; registers = opening_registers t number; retired = 0; end = Running }
