-- What the loader answers: the image of a file that is accepted, or the refusal of one that is not.
use Rattle.std.specs.Prelude.{ℕ, ◌+◌, List, filter, map, slice_range}
use Rattle.dash_base.specs.Segment.{SegmentView}
use Rattle.elf_load.specs.Image.{ImageView}
use Rattle.elf_load.specs.Header.{file_header, program_headers}
use Rattle.elf_load.specs.Refusal.{is_segment, IsFirstRefusal}
use Rattle.elf_load.specs.declared.header.ProgramHeader.{ProgramHeader}
use Rattle.elf_load.specs.declared.memory_map.MemoryMap.{MemoryMap}
use Rattle.elf_load.specs.declared.refusal.LoadRefusal.{LoadRefusal}
use Rattle.elf_load.specs.declared.refusal.LoadRefusal.TheVariants.{OutOfMemory}

-- the segment of a program header
abbrev pub segment_of : List ℕ → ProgramHeader → SegmentView
segment_of bytes header = record {
  vaddr = header.p_vaddr;
  memsz = header.p_memsz;
  flags = header.p_flags;
  bytes = slice_range bytes header.p_offset (header.p_offset + header.p_filesz);
}

-- the program headers of segments, in order
abbrev pub segment_headers : List ℕ → List ProgramHeader
segment_headers bytes = filter is_segment (program_headers bytes)

-- the image of a file that is accepted: its entry, and its segments in the order of their headers
unfoldable pub image_of : List ℕ → ImageView
image_of bytes = record {
  entry = (file_header bytes).e_entry;
  segments = map (segment_of bytes) (segment_headers bytes);
}

-- an answer for a file that is refused is the refusal that it gets; running out of memory may stand in its place, and for no cause
abbrev pub Refuses : List ℕ → MemoryMap → LoadRefusal → Type 0
Refuses bytes memory OutOfMemory = Unit {0}
Refuses bytes memory refusal = IsFirstRefusal bytes memory refusal
