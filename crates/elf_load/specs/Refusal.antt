-- Which files the loader refuses: the causes of each refusal, and which of them is named.
use Rattle.std.specs.Prelude.{◌≡◌, ◌≤◌, ◌<◌, ◌⊎◌, ℕ, ◌+◌, ◌*◌, ◌%◌, Bool, ◌==◌, ◌&&◌, ◌||◌, not, nat_eq, nat_lt, true, false, List, [], ◌∷◌, length}
use Rattle.std.specs.List.{starts_with}
use Rattle.elf_load.specs.Bits.{has_bit}
use Rattle.elf_load.specs.Header.{file_header, header_at}
use Rattle.elf_load.specs.declared.header.FileHeader.{FileHeader}
use Rattle.elf_load.specs.declared.header.ProgramHeader.{ProgramHeader}
use Rattle.elf_load.specs.declared.memory_map.MemoryMap.{MemoryMap}
use Rattle.elf_load.specs.declared.refusal.LoadRefusal.{LoadRefusal}
use Rattle.elf_load.specs.declared.refusal.LoadRefusal.TheVariants.{Short, NotElf, NotClass32Little, NotRiscv, NotExec, Compressed, Reduced, HeaderSize, SegmentOutOfFile, FileSizeAboveMemory, SegmentOutOfMemory, Overlap, NoSegment, EntryNotExecutable, OutOfMemory}

-- fewer bytes than a file header has, or than the program headers end at
abbrev pub is_short : List ℕ → Bool
is_short bytes =
    let header = file_header bytes in
    nat_lt (length bytes) 52 || nat_lt (length bytes) (header.e_phoff + 32 * header.e_phnum)

-- the first four bytes are 7F 45 4C 46
abbrev pub is_elf : List ℕ → Bool
is_elf bytes = starts_with nat_eq bytes (127 ∷ 69 ∷ 76 ∷ 70 ∷ [])

-- a file of 32 bits, the lowest byte first: ELFCLASS32 and ELFDATA2LSB
abbrev pub is_class_32_little : FileHeader → Bool
is_class_32_little header = header.ei_class == 1 && header.ei_data == 1

-- a file for RISC-V: EM_RISCV
abbrev pub is_riscv : FileHeader → Bool
is_riscv header = header.e_machine == 243

-- an executable: ET_EXEC
abbrev pub is_executable : FileHeader → Bool
is_executable header = header.e_type == 2

-- code with compressed instructions: EF_RISCV_RVC
abbrev pub is_compressed : FileHeader → Bool
is_compressed header = has_bit 0 header.e_flags

-- code for the reduced set of registers: EF_RISCV_RVE
abbrev pub is_reduced : FileHeader → Bool
is_reduced header = has_bit 3 header.e_flags

-- program headers of another size than 32 bytes
abbrev pub has_other_headers : FileHeader → Bool
has_other_headers header = not (header.e_phnum == 0) && not (header.e_phentsize == 32)

-- a segment to load, PT_LOAD, with bytes in the file or in memory; all other program headers are passed over
abbrev pub is_segment : ProgramHeader → Bool
is_segment header = header.p_type == 1 && not (header.p_filesz == 0 && header.p_memsz == 0)

-- its bytes end behind the end of a file of so many bytes
abbrev pub is_out_of_file : ℕ → ProgramHeader → Bool
is_out_of_file len header = nat_lt len (header.p_offset + header.p_filesz)

-- it has more bytes in the file than in memory
abbrev pub is_above_memory_size : ProgramHeader → Bool
is_above_memory_size header = nat_lt header.p_memsz header.p_filesz

-- it begins before memory, or ends behind it
abbrev pub is_out_of_memory : MemoryMap → ProgramHeader → Bool
is_out_of_memory map header =
    nat_lt header.p_vaddr map.base || nat_lt (map.base + map.size) (header.p_vaddr + header.p_memsz)

-- the program header of this number is that of a segment
pub record IsSegmentAt (bytes : List ℕ) (i : ℕ) : Type 0 where
  pub number : i < (file_header bytes).e_phnum
  pub segment : is_segment (header_at bytes i) ≡ true

-- it is, and the segment fails by this test
pub record FailsAt (test : ProgramHeader → Bool) (bytes : List ℕ) (i : ℕ) : Type 0 where
  pub segment : IsSegmentAt bytes i
  pub fails : test (header_at bytes i) ≡ true

-- an address lies in a segment
pub record IsWithin (address : ℕ) (header : ProgramHeader) : Type 0 where
  pub start : header.p_vaddr ≤ address
  pub end : address < header.p_vaddr + header.p_memsz

-- two segments share an address
pub record SharesAddress (a b : ProgramHeader) : Type 0 where
  pub address : ℕ
  pub in_first : IsWithin address a
  pub in_second : IsWithin address b

-- the segments of these two numbers, the lower one first, share an address
pub record OverlapsAt (bytes : List ℕ) (i j : ℕ) : Type 0 where
  pub order : i < j
  pub first : IsSegmentAt bytes i
  pub second : IsSegmentAt bytes j
  pub shared : SharesAddress (header_at bytes i) (header_at bytes j)

-- an address is a multiple of 4, and its four bytes are all in one segment that may be executed
pub record IsExecutable (bytes : List ℕ) (address : ℕ) : Type 0 where
  pub aligned : address % 4 ≡ 0
  pub number : ℕ
  pub segment : IsSegmentAt bytes number
  pub executable : has_bit 0 (header_at bytes number).p_flags ≡ true
  pub start : (header_at bytes number).p_vaddr ≤ address
  pub end : address + 4 ≤ (header_at bytes number).p_vaddr + (header_at bytes number).p_memsz

-- the cause of each refusal
abbrev pub Applies : List ℕ → MemoryMap → LoadRefusal → Type 0
Applies bytes map (Short at) = (is_short bytes ≡ true) × (at ≡ length bytes)
Applies bytes map NotElf = is_elf bytes ≡ false
Applies bytes map NotClass32Little = is_class_32_little (file_header bytes) ≡ false
Applies bytes map NotRiscv = is_riscv (file_header bytes) ≡ false
Applies bytes map NotExec = is_executable (file_header bytes) ≡ false
Applies bytes map Compressed = is_compressed (file_header bytes) ≡ true
Applies bytes map Reduced = is_reduced (file_header bytes) ≡ true
Applies bytes map (HeaderSize size) = (has_other_headers (file_header bytes) ≡ true) × (size ≡ (file_header bytes).e_phentsize)
Applies bytes map (SegmentOutOfFile i) = FailsAt (is_out_of_file (length bytes)) bytes i
Applies bytes map (FileSizeAboveMemory i) = FailsAt is_above_memory_size bytes i
Applies bytes map (SegmentOutOfMemory i) = FailsAt (is_out_of_memory map) bytes i
Applies bytes map (Overlap i j) = OverlapsAt bytes i j
Applies bytes map NoSegment = (i : ℕ) → IsSegmentAt bytes i → ⊥
Applies bytes map (EntryNotExecutable entry) = (IsExecutable bytes entry → ⊥) × (entry ≡ (file_header bytes).e_entry)
Applies bytes map OutOfMemory = ⊥

-- the number of a refusal, by which they are tried
abbrev pub number_of : LoadRefusal → ℕ
number_of (Short at) = 1
number_of NotElf = 2
number_of NotClass32Little = 3
number_of NotRiscv = 4
number_of NotExec = 5
number_of Compressed = 6
number_of Reduced = 7
number_of (HeaderSize size) = 8
number_of (SegmentOutOfFile i) = 9
number_of (FileSizeAboveMemory i) = 10
number_of (SegmentOutOfMemory i) = 11
number_of (Overlap i j) = 12
number_of NoSegment = 13
number_of (EntryNotExecutable entry) = 14
number_of OutOfMemory = 15

-- the number of the program header that it names, and of a second one; 0 where it names none
abbrev pub header_of : LoadRefusal → ℕ
header_of (SegmentOutOfFile i) = i
header_of (FileSizeAboveMemory i) = i
header_of (SegmentOutOfMemory i) = i
header_of (Overlap i j) = i
header_of _ = 0

abbrev pub second_header_of : LoadRefusal → ℕ
second_header_of (Overlap i j) = j
second_header_of _ = 0

-- the headers that one names are not behind those of the other
abbrev pub IsUpTo : LoadRefusal → LoadRefusal → Type 0
IsUpTo refusal other =
    (header_of refusal < header_of other)
    ⊎ ((header_of refusal ≡ header_of other) × (second_header_of refusal ≤ second_header_of other))

-- the refusal that a file gets: of those that apply, the one of the least number, with the least headers
pub record IsFirstRefusal (bytes : List ℕ) (map : MemoryMap) (refusal : LoadRefusal) : Type 0 where
  pub applies : Applies bytes map refusal
  pub none_before : (other : LoadRefusal) → number_of other < number_of refusal → Applies bytes map other → ⊥
  pub least : (other : LoadRefusal) → number_of other ≡ number_of refusal → Applies bytes map other → IsUpTo refusal other

-- a file that is accepted: no refusal applies
abbrev pub IsLoadable : List ℕ → MemoryMap → Type 0
IsLoadable bytes map = (refusal : LoadRefusal) → Applies bytes map refusal → ⊥
