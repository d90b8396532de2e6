-- Numbers are read where they were written.
use Rattle.std.proofs.Common.{◌≡◌, ℕ, ◌+◌, ◌^◌, ◌<◌, List, ◌++◌, length, drop, refl, sym, ◌∙◌, ap, arith}
use Rattle.std.proofs.lemmas.List.{drop-drop}
use Rattle.byteorder.specs.Endian.{little_bytes, little_number}
use Rattle.byteorder.specs.Numbers.{little_number-reads_back}
use Rattle.dash_base.specs.Segment.{SegmentView}
use Rattle.elf_load.specs.Header.{file_header, program_header, half_at, word_at}
use Rattle.elf_load.specs.declared.header.FileHeader.{FileHeader}
use Rattle.elf_load.specs.declared.header.ProgramHeader.{ProgramHeader}
use Rattle.rv32_encode.specs.Elf.{file_header_bytes, halves, segment_fields, words}
use Rattle.rv32_encode.specs.Written.{FitsHeader}

half_read : (bytes rest : List ℕ) (place x : ℕ) → drop place bytes ≡ little_bytes 2 x ++ rest → x < 2 ^ 16 → half_at bytes place ≡ x
unfolding half_at
half_read bytes rest place x there small =
    let fits : x < 256 ^ 2 = omega arith in ap (little_number 2) there ∙ little_number-reads_back 2 x rest fits

word_read : (bytes rest : List ℕ) (place x : ℕ) → drop place bytes ≡ little_bytes 4 x ++ rest → x < 2 ^ 32 → word_at bytes place ≡ x
unfolding word_at
word_read bytes rest place x there small =
    let fits : x < 256 ^ 4 = omega arith in ap (little_number 4) there ∙ little_number-reads_back 4 x rest fits

-- the file header of a file with this entry and so many program headers
abbrev pub header_for_file : ℕ → ℕ → FileHeader
header_for_file entry count = record {
  ei_class = 1;
  ei_data = 1;
  e_type = 2;
  e_machine = 243;
  e_entry = entry;
  e_phoff = 52;
  e_flags = 0;
  e_phentsize = 32;
  e_phnum = count;
}

pub file_header-read : (entry count : ℕ) (rest : List ℕ) → entry < 2 ^ 32 → count < 2 ^ 16
    → file_header (file_header_bytes entry count ++ rest) ≡ header_for_file entry count
unfolding file_header_bytes halves words
file_header-read entry count rest small few =
    let bytes = file_header_bytes entry count ++ rest in
    let kind : half_at bytes 16 ≡ 2 = half_read bytes _ 16 2 refl (omega arith) in
    let machine : half_at bytes 18 ≡ 243 = half_read bytes _ 18 243 refl (omega arith) in
    let start : word_at bytes 24 ≡ entry = word_read bytes _ 24 entry refl small in
    let headers : word_at bytes 28 ≡ 52 = word_read bytes _ 28 52 refl (omega arith) in
    let flags : word_at bytes 36 ≡ 0 = word_read bytes _ 36 0 refl (omega arith) in
    let size : half_at bytes 42 ≡ 32 = half_read bytes _ 42 32 refl (omega arith) in
    let number : half_at bytes 44 ≡ count = half_read bytes _ 44 count refl few in
    λ i. record {
      ei_class = 1;
      ei_data = 1;
      e_type = kind i;
      e_machine = machine i;
      e_entry = start i;
      e_phoff = headers i;
      e_flags = flags i;
      e_phentsize = size i;
      e_phnum = number i;
    }

-- the program header of a segment whose bytes stand at a place in the file
abbrev pub header_for : ℕ → SegmentView → ProgramHeader
header_for offset s = record {
  p_type = 1;
  p_offset = offset;
  p_vaddr = s.vaddr;
  p_filesz = length s.bytes;
  p_memsz = s.memsz;
  p_flags = s.flags;
}

later : (bytes there : List ℕ) (place k : ℕ) → drop place bytes ≡ there → drop (place + k) bytes ≡ drop k there
later bytes there place k at = sym (drop-drop k place bytes) ∙ ap (drop k) at

pub program_header-read : (bytes rest : List ℕ) (place offset : ℕ) (s : SegmentView)
    → drop place bytes ≡ words (segment_fields offset s) ++ rest → offset < 2 ^ 32 → FitsHeader s
    → program_header bytes place ≡ header_for offset s
unfolding words
program_header-read bytes rest place offset s at small fits =
    let kind : word_at bytes place ≡ 1 = word_read bytes _ place 1 at (omega arith) in
    let file : word_at bytes (place + 4) ≡ offset = word_read bytes _ (place + 4) offset (later bytes _ place 4 at) small in
    let address : word_at bytes (place + 8) ≡ s.vaddr = word_read bytes _ (place + 8) s.vaddr (later bytes _ place 8 at) fits.address in
    let length_fits : length s.bytes < 2 ^ 32 = let room = fits.room in let size = fits.size in omega arith in
    let in_file : word_at bytes (place + 16) ≡ length s.bytes = word_read bytes _ (place + 16) (length s.bytes) (later bytes _ place 16 at) length_fits in
    let in_memory : word_at bytes (place + 20) ≡ s.memsz = word_read bytes _ (place + 20) s.memsz (later bytes _ place 20 at) fits.size in
    let flags : word_at bytes (place + 24) ≡ s.flags = word_read bytes _ (place + 24) s.flags (later bytes _ place 24 at) fits.flags in
    λ i. record {
      p_type = kind i;
      p_offset = file i;
      p_vaddr = address i;
      p_filesz = in_file i;
      p_memsz = in_memory i;
      p_flags = flags i;
    }
