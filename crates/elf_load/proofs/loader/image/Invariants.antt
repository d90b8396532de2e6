use Rattle.std.proofs.Common.{◌≡◌, map, take}
use Rattle.elf_load.specs.Loader.{segment_of}
use Rattle.elf_load.proofs.loader.image.Given as goal

abbrev pub invariant-loop-numbered : goal.invariant-loop-numbered
invariant-loop-numbered l = l.segments.items ≡ map (λ s. segment_of l.bytes s.header) (take l.numbered-index l.headers)
