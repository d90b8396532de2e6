use Rattle.elf_load.proofs.Opened.{IsPutBelow}
use Rattle.elf_load.proofs.opening.put.Given as goal

abbrev pub invariant-loop-address : goal.invariant-loop-address
invariant-loop-address l = IsPutBelow l.address l.segment l.fn.map l.fn.bytes.items l.bytes.items
