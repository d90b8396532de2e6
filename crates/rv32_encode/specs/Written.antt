-- What the loader makes of the file of a program.
use Rattle.std.specs.Prelude.{◌≡◌, ◌≤◌, ◌<◌, ◌^◌, ℕ, ◌==◌, not, List, length, filter, All}
use Rattle.dash_base.specs.Segment.{SegmentView}
use Rattle.elf_load.specs.Image.{ImageView}
use Rattle.elf_load.specs.Loader.{image_of}
use Rattle.elf_load.specs.Refusal.{Applies, IsLoadable, number_of}
use Rattle.elf_load.specs.declared.memory_map.MemoryMap.{MemoryMap}
use Rattle.elf_load.specs.declared.refusal.LoadRefusal.{LoadRefusal}
use Rattle.rv32_encode.specs.Elf.{contents, elf_of}

-- the fields of a segment fit a program header, and it has room for its bytes
pub record FitsHeader (s : SegmentView) : Type 0 where
  pub address : s.vaddr < 2 ^ 32
  pub size : s.memsz < 2 ^ 32
  pub flags : s.flags < 2 ^ 32
  pub room : length s.bytes ≤ s.memsz

-- a program that can be written
pub record IsWritable (program : ImageView) : Type 0 where
  pub entry : program.entry < 2 ^ 32
  pub segments : All FitsHeader program.segments
  pub few : length program.segments ≤ 64
  pub small : length (contents program.segments) ≤ 33554432

-- a program as it is loaded: without its segments of no bytes, which the loader passes over
abbrev pub as_loaded : ImageView → ImageView
as_loaded program = record {
  entry = program.entry;
  segments = filter (λ (s : SegmentView). not (s.memsz == 0)) program.segments;
}

-- none of the refusals 11 to 14, which are about memory and the entry
abbrev pub HasNoLateRefusal : List ℕ → MemoryMap → Type 0
HasNoLateRefusal bytes map =
    (refusal : LoadRefusal) → 11 ≤ number_of refusal → number_of refusal ≤ 14 → Applies bytes map refusal → ⊥

-- the refusals 1 to 10, which are about the file alone, never apply
abbrev pub WrittenFilesAreWellFormed : Type 0
WrittenFilesAreWellFormed =
    (program : ImageView) (map : MemoryMap) (refusal : LoadRefusal) → IsWritable program → number_of refusal ≤ 10
    → Applies (elf_of program) map refusal → ⊥

-- so a file is accepted where none of the others applies
abbrev pub WrittenFilesAreLoadable : Type 0
WrittenFilesAreLoadable =
    (program : ImageView) (map : MemoryMap) → IsWritable program → HasNoLateRefusal (elf_of program) map
    → IsLoadable (elf_of program) map

-- and its image is the program
abbrev pub WrittenFilesGiveTheirProgram : Type 0
WrittenFilesGiveTheirProgram =
    (program : ImageView) → IsWritable program → image_of (elf_of program) ≡ as_loaded program
