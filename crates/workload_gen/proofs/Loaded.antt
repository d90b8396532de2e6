-- The loader finds no fault with the program's file.
use Rattle.std.proofs.Common.{Err, IfErr, Ok, Result, ap, arith, false, length, nat_lt, refl, subst, sym, true, ℕ, ◌%◌, ◌+◌, ◌<◌, ◌∙◌, ◌≡◌, ◌≤◌}
use Rattle.std.specs.Prelude.{◌||◌}
use Rattle.elf_load.specs.Bits.{has_bit}
use Rattle.elf_load.specs.Header.{file_header, half_at, header_at, word_at}
use Rattle.elf_load.specs.Image.{ImageView}
use Rattle.elf_load.specs.Loader.{Refuses}
use Rattle.elf_load.specs.Refusal.{IsSegmentAt, is_out_of_memory, is_segment, number_of}
use Rattle.elf_load.specs.declared.header.ProgramHeader.{ProgramHeader}
use Rattle.elf_load.specs.declared.memory_map.MemoryMap.{MemoryMap}
use Rattle.elf_load.specs.declared.refusal.LoadRefusal.{LoadRefusal}
use Rattle.elf_load.specs.declared.refusal.LoadRefusal.TheVariants.{Short, NotElf, NotClass32Little, NotRiscv, NotExec, Compressed, Reduced, HeaderSize, SegmentOutOfFile, FileSizeAboveMemory, SegmentOutOfMemory, Overlap, NoSegment, EntryNotExecutable, OutOfMemory}
use Rattle.rv32_encode.specs.Elf.{contents, elf_of, file_header_bytes, halves, table_bytes, words}
use Rattle.workload_gen.specs.Program.{image_of}

-- its one program header
unfoldable the_header : ProgramHeader
the_header = record { p_type = 1; p_offset = 84; p_vaddr = 4096; p_filesz = 140; p_memsz = 140; p_flags = 5 }

one_header : (seed : ℕ) → (file_header (elf_of (image_of seed))).e_phnum ≡ 1
unfolding elf_of contents table_bytes halves words file_header_bytes half_at word_at
one_header seed = refl

its_entry : (seed : ℕ) → (file_header (elf_of (image_of seed))).e_entry ≡ 4096
unfolding elf_of contents table_bytes halves words file_header_bytes half_at word_at
its_entry seed = refl

header_is : (seed : ℕ) → header_at (elf_of (image_of seed)) 0 ≡ the_header
unfolding elf_of contents table_bytes halves words file_header_bytes half_at word_at header_at the_header
header_is seed = refl

first_only : (seed i : ℕ) → i < (file_header (elf_of (image_of seed))).e_phnum → i ≡ 0
first_only seed i number = let below : i < 1 = subst (λ n. i < n) (one_header seed) number in omega arith

header_at_first : (seed i : ℕ) → i < (file_header (elf_of (image_of seed))).e_phnum → header_at (elf_of (image_of seed)) i ≡ the_header
header_at_first seed i number = ap (header_at (elf_of (image_of seed))) (first_only seed i number) ∙ header_is seed

is_the_segment : (seed : ℕ) → IsSegmentAt (elf_of (image_of seed)) 0
unfolding the_header
is_the_segment seed = record {
  number = subst (λ n. 0 < n) (sym (one_header seed)) (omega arith);
  segment = ap is_segment (header_is seed);
}

in_memory : (map : MemoryMap) → map.base ≡ 0 → map.size ≡ 65536 → is_out_of_memory map the_header ≡ true → ⊥
unfolding the_header
in_memory map base size out =
    let no : is_out_of_memory map the_header ≡ false = (λ j. nat_lt 4096 (base j) || nat_lt (base j + size j) 4236) in
    let differ : true ≡ false = sym out ∙ no in
    cc

-- no refusal is about memory or the entry
pub refused : (seed : ℕ) (map : MemoryMap) (refusal : LoadRefusal) → map.base ≡ 0 → map.size ≡ 65536 → 11 ≤ number_of refusal
    → Refuses (elf_of (image_of seed)) map refusal → refusal ≡ OutOfMemory
unfolding the_header
refused seed map (Short at) base size late because = absurd (omega arith)
refused seed map NotElf base size late because = absurd (omega arith)
refused seed map NotClass32Little base size late because = absurd (omega arith)
refused seed map NotRiscv base size late because = absurd (omega arith)
refused seed map NotExec base size late because = absurd (omega arith)
refused seed map Compressed base size late because = absurd (omega arith)
refused seed map Reduced base size late because = absurd (omega arith)
refused seed map (HeaderSize n) base size late because = absurd (omega arith)
refused seed map (SegmentOutOfFile i) base size late because = absurd (omega arith)
refused seed map (FileSizeAboveMemory i) base size late because = absurd (omega arith)
refused seed map (SegmentOutOfMemory i) base size late because =
    let out = because.applies in
    absurd (in_memory map base size (sym (ap (is_out_of_memory map) (header_at_first seed i out.segment.number)) ∙ out.fails))
refused seed map (Overlap i j) base size late because =
    let two = because.applies in
    let second = first_only seed j two.second.number in
    let order = two.order in
    absurd (omega arith)
refused seed map NoSegment base size late because = absurd (because.applies 0 (is_the_segment seed))
refused seed map (EntryNotExecutable entry) base size late because =
    let is : entry ≡ 4096 = because.applies.1 ∙ its_entry seed in
    let h = sym (header_is seed) in
    absurd (because.applies.0 (record {
      aligned = ap (λ e. e % 4) is;
      number = 0;
      segment = is_the_segment seed;
      executable = ap (λ x. has_bit 0 x.p_flags) (header_is seed);
      start = subst (λ x. x.p_vaddr ≤ entry) h (subst (λ e. 4096 ≤ e) (sym is) (omega arith));
      end = subst (λ x. entry + 4 ≤ x.p_vaddr + x.p_memsz) h (subst (λ e. e + 4 ≤ 4236) (sym is) (omega arith));
    }))
refused seed map OutOfMemory base size late because = refl

-- the same of the loader's answer
pub answer_refused : (seed : ℕ) (program : ImageView) (map : MemoryMap) (answer : Result ImageView LoadRefusal) → program ≡ image_of seed → map.base ≡ 0 → map.size ≡ 65536
    → IfErr answer (λ refusal. 11 ≤ number_of refusal) → IfErr answer (Refuses (elf_of program) map) → IfErr answer (λ refusal. refusal ≡ OutOfMemory)
answer_refused seed program map (Ok image) is base size late because = because
answer_refused seed program map (Err refusal) is base size late because =
    refused seed map refusal base size late (subst (λ p. Refuses (elf_of p) map refusal) is because)

-- it has 140 bytes
pub small : (program : ImageView) (seed : ℕ) → program ≡ image_of seed → length (contents program.segments) ≤ 33554432
unfolding contents
small program seed is = subst (λ (p : ImageView). length (contents p.segments) ≤ 33554432) (sym is) (omega arith)
