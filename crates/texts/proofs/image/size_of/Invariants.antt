use Rattle.std.proofs.Common.{◌≡◌, ◌≤◌, length, take}
use Rattle.rv32_encode.specs.Elf.{contents}
use Rattle.texts.proofs.image.size_of.Given as goal

-- what was counted
abbrev pub invariant-loop-segment : goal.invariant-loop-segment
invariant-loop-segment l = (l.size ≡ length (contents (take l.segment-index l.segments))) × (l.size ≤ 33554432)
