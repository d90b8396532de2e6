use Rattle.std.proofs.Common.{◌≡◌, None, length}
use Rattle.elf_load.specs.Table.{least_clashing_from}
use Rattle.elf_load.proofs.overlap.least_clashing.Given as goal

abbrev pub invariant-loop-rest : goal.invariant-loop-rest
invariant-loop-rest l = least_clashing_from 0 None l.sorted ≡ least_clashing_from l.reach l.least l.rest

abbrev pub decreases-loop-rest : goal.decreases-loop-rest
decreases-loop-rest l = length l.rest
