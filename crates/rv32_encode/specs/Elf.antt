-- The bytes of an executable file with the segments of a program (System V ABI, "ELF Header" and "Program Header").
use Rattle.std.specs.Prelude.{ℕ, ◌+◌, ◌*◌, List, [], ◌∷◌, ◌++◌, length, flat_map}
use Rattle.byteorder.specs.Endian.{little_bytes}
use Rattle.dash_base.specs.Segment.{SegmentView}
use Rattle.elf_load.specs.Image.{ImageView}

-- numbers of two bytes each, the lowest byte first
unfoldable pub halves : List ℕ → List ℕ
halves numbers = flat_map (little_bytes 2) numbers

-- numbers of four bytes each, the lowest byte first
unfoldable pub words : List ℕ → List ℕ
words numbers = flat_map (little_bytes 4) numbers

-- e_ident: the magic number, then ELFCLASS32, ELFDATA2LSB, EV_CURRENT, and nine bytes of padding
abbrev pub ident : List ℕ
ident = 127 ∷ 69 ∷ 76 ∷ 70 ∷ 1 ∷ 1 ∷ 1 ∷ 0 ∷ 0 ∷ 0 ∷ 0 ∷ 0 ∷ 0 ∷ 0 ∷ 0 ∷ 0 ∷ []

-- e_type and e_machine: ET_EXEC and EM_RISCV
abbrev pub kind : List ℕ
kind = 2 ∷ 243 ∷ []

-- e_version, e_entry, e_phoff, e_shoff and e_flags: the program headers stand behind the file header
abbrev pub places : ℕ → List ℕ
places entry = 1 ∷ entry ∷ 52 ∷ 0 ∷ 0 ∷ []

-- e_ehsize, e_phentsize, e_phnum, e_shentsize, e_shnum and e_shstrndx: so many program headers, and no sections
abbrev pub sizes : ℕ → List ℕ
sizes count = 52 ∷ 32 ∷ count ∷ 0 ∷ 0 ∷ 0 ∷ []

-- the file header
unfoldable pub file_header_bytes : ℕ → ℕ → List ℕ
file_header_bytes entry count =
    ident ++ (halves kind ++ (words (places entry) ++ halves (sizes count)))

-- p_type, p_offset, p_vaddr, p_paddr, p_filesz, p_memsz, p_flags and p_align of a segment whose bytes stand at a
-- place in the file: PT_LOAD, and no alignment
abbrev pub segment_fields : ℕ → SegmentView → List ℕ
segment_fields offset s =
    1 ∷ offset ∷ s.vaddr ∷ s.vaddr ∷ length s.bytes ∷ s.memsz ∷ s.flags ∷ 1 ∷ []

-- the program headers of segments whose bytes stand in the file one behind the other, from a place on
unfoldable pub table_bytes : ℕ → List SegmentView → List ℕ
table_bytes offset [] = []
table_bytes offset (s ∷ rest) =
    words (segment_fields offset s) ++ table_bytes (offset + length s.bytes) rest

-- the bytes of segments, one behind the other
unfoldable pub contents : List SegmentView → List ℕ
contents segments = flat_map (λ (s : SegmentView). s.bytes) segments

-- where the bytes of the first segment stand: behind the headers
abbrev pub contents_place : List SegmentView → ℕ
contents_place segments = 52 + 32 * length segments

-- the file
unfoldable pub elf_of : ImageView → List ℕ
elf_of program =
    file_header_bytes program.entry (length program.segments)
    ++ (table_bytes (contents_place program.segments) program.segments ++ contents program.segments)
