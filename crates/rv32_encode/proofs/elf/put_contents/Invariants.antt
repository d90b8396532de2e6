use Rattle.std.proofs.Common.{◌≡◌, ◌++◌, take}
use Rattle.rv32_encode.specs.Elf.{contents}
use Rattle.rv32_encode.proofs.elf.put_contents.Given as goal

abbrev pub invariant-loop-segment : goal.invariant-loop-segment
invariant-loop-segment l = l.file.items ≡ l.fn.file.items ++ contents (take l.segment-index l.segments)
