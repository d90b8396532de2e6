use Rattle.std.proofs.Common.{◌≡◌, ◌≤◌, length, drop, vec_len}
use Rattle.elf_load.specs.Opening.{IsOpening}
use Rattle.elf_load.proofs.opening.memory_bytes.Given as goal

abbrev pub invariant-loop-left : goal.invariant-loop-left
invariant-loop-left l = record {
  opening : IsOpening (drop l.left l.segments) l.map l.bytes.items;
  len : vec_len l.bytes ≡ l.map.size;
  within : l.left ≤ length l.segments;
}

abbrev pub decreases-loop-left : goal.decreases-loop-left
decreases-loop-left l = l.left
