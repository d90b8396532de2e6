use Rattle.std.proofs.Common.{◌≡◌, ◌++◌, take}
use Rattle.rv32_encode.specs.Elf.{halves}
use Rattle.rv32_encode.proofs.elf.put_halves.Given as goal

abbrev pub invariant-loop-number : goal.invariant-loop-number
invariant-loop-number l = l.file.items ≡ l.fn.file.items ++ halves (take l.number-index l.numbers)
