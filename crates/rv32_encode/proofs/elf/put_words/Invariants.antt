use Rattle.std.proofs.Common.{◌≡◌, ◌++◌, take}
use Rattle.rv32_encode.specs.Elf.{words}
use Rattle.rv32_encode.proofs.elf.put_words.Given as goal

abbrev pub invariant-loop-number : goal.invariant-loop-number
invariant-loop-number l = l.file.items ≡ l.fn.file.items ++ words (take l.number-index l.numbers)
