use Rattle.std.proofs.Common.{◌≡◌, drop}
use Rattle.elf_load.specs.Table.{rises_from}
use Rattle.elf_load.proofs.overlap.rises.Given as goal

abbrev pub invariant-loop-segment : goal.invariant-loop-segment
invariant-loop-segment l = rises_from 0 l.segments ≡ rises_from l.reach (drop l.segment-index l.segments)
