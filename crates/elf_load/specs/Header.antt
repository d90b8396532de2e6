-- The fields of an ELF file of 32 bits that the loader looks at (System V ABI, "ELF Header" and "Program Header").
use Rattle.std.specs.Prelude.{ℕ, ◌+◌, ◌*◌, List, drop, map, slice_index}
use Rattle.std.specs.List.{range_with_len}
use Rattle.byteorder.specs.Endian.{little_number}
use Rattle.elf_load.specs.declared.header.FileHeader.{FileHeader}
use Rattle.elf_load.specs.declared.header.ProgramHeader.{ProgramHeader}

-- the number in two bytes from a place on, the lowest first
unfoldable pub half_at : List ℕ → ℕ → ℕ
half_at bytes place = little_number 2 (drop place bytes)

-- the number in four bytes from a place on, the lowest first
unfoldable pub word_at : List ℕ → ℕ → ℕ
word_at bytes place = little_number 4 (drop place bytes)

-- the file header, at the start of the file
abbrev pub file_header : List ℕ → FileHeader
file_header bytes = record {
  ei_class = slice_index bytes 4;
  ei_data = slice_index bytes 5;
  e_type = half_at bytes 16;
  e_machine = half_at bytes 18;
  e_entry = word_at bytes 24;
  e_phoff = word_at bytes 28;
  e_flags = word_at bytes 36;
  e_phentsize = half_at bytes 42;
  e_phnum = half_at bytes 44;
}

-- the program header at a place
abbrev pub program_header : List ℕ → ℕ → ProgramHeader
program_header bytes place = record {
  p_type = word_at bytes place;
  p_offset = word_at bytes (place + 4);
  p_vaddr = word_at bytes (place + 8);
  p_filesz = word_at bytes (place + 16);
  p_memsz = word_at bytes (place + 20);
  p_flags = word_at bytes (place + 24);
}

-- the program header of a number, from 0, in the file's table of program headers
unfoldable pub header_at : List ℕ → ℕ → ProgramHeader
header_at bytes i = program_header bytes ((file_header bytes).e_phoff + 32 * i)

-- the table of program headers
abbrev pub program_headers : List ℕ → List ProgramHeader
program_headers bytes = map (header_at bytes) (range_with_len 0 (file_header bytes).e_phnum)
