-- What the loader makes of a file that was written: no refusal of the file itself applies, and its image is the program.
use Rattle.std.proofs.Common.{◌≤◌, IfOk, IfErr, Result, Ok, Err, ◌≡◌, subst, ℕ, ◌+◌, ◌*◌, ◌<◌, Bool, true, List, [], ◌∷◌, ◌++◌, length, drop, map, filter, refl, sym, ◌∙◌, ap, append-nil, arith}
use Rattle.std.proofs.lemmas.List.{drop-drop, drop_at, length-append}
use Rattle.std.proofs.lemmas.Bool.Decides.{nat_tests}
use Rattle.std.specs.List.{range_with_len}
use Rattle.dash_base.specs.Segment.{SegmentView}
use Rattle.elf_load.specs.Header.{file_header, header_at}
use Rattle.elf_load.specs.Image.{ImageView}
use Rattle.elf_load.specs.Loader.{image_of, segment_of, Refuses}
use Rattle.elf_load.specs.Refusal.{FailsAt, IsLoadable, number_of, has_other_headers, is_above_memory_size, is_class_32_little, is_compressed, is_elf, is_executable, is_out_of_file, is_reduced, is_riscv, is_segment, is_short}
use Rattle.elf_load.specs.declared.header.FileHeader.{FileHeader}
use Rattle.elf_load.specs.declared.memory_map.MemoryMap.{MemoryMap}
use Rattle.elf_load.specs.declared.refusal.LoadRefusal.{LoadRefusal}
use Rattle.elf_load.specs.declared.refusal.LoadRefusal.TheVariants.{Short, NotElf, NotClass32Little, NotRiscv, NotExec, Compressed, Reduced, HeaderSize, SegmentOutOfFile, FileSizeAboveMemory, SegmentOutOfMemory, Overlap, NoSegment, EntryNotExecutable, OutOfMemory}
use Rattle.rv32_encode.specs.Elf.{contents, contents_place, elf_of, file_header_bytes, halves, segment_fields, table_bytes, words}
use Rattle.rv32_encode.specs.Written.{IsWritable, as_loaded, WrittenFilesAreLoadable, WrittenFilesAreWellFormed, WrittenFilesGiveTheirProgram}
use Rattle.rv32_encode.proofs.NumbersRead.{file_header-read, header_for_file}
use Rattle.rv32_encode.proofs.Headers.{HasHeaders, IsWhole, headers-read, headers-whole}
use Rattle.rv32_encode.proofs.Segments.{segments-read}

length-file_header : (entry count : ℕ) → length (file_header_bytes entry count) ≡ 52
unfolding file_header_bytes halves words
length-file_header entry count = refl

length-table : (offset : ℕ) (ss : List SegmentView) → length (table_bytes offset ss) ≡ 32 * length ss
unfolding table_bytes words
length-table offset [] = refl
length-table offset (s ∷ ss) =
    let rest = length-table (offset + length s.bytes) ss in
    let all = length-append (words (segment_fields offset s)) (table_bytes (offset + length s.bytes) ss) in
    omega arith

-- the file, with names for its parts
abbrev table : ImageView → List ℕ
table p = table_bytes (contents_place p.segments) p.segments

length-elf : (p : ImageView) → length (elf_of p) ≡ contents_place p.segments + length (contents p.segments)
unfolding elf_of
length-elf p =
    let a = length-file_header p.entry (length p.segments) in
    let b = length-table (contents_place p.segments) p.segments in
    let c = length-append (table p) (contents p.segments) in
    let d = length-append (file_header_bytes p.entry (length p.segments)) (table p ++ contents p.segments) in
    omega arith

header-written : (p : ImageView) → IsWritable p → file_header (elf_of p) ≡ header_for_file p.entry (length p.segments)
unfolding elf_of
header-written p can =
    let few = can.few in
    file_header-read p.entry (length p.segments) (table p ++ contents p.segments) can.entry (omega arith)

table-written : (p : ImageView) → drop 52 (elf_of p) ≡ table p ++ contents p.segments
unfolding elf_of
table-written p =
    drop_at (file_header_bytes p.entry (length p.segments)) (table p ++ contents p.segments) 52 (length-file_header p.entry (length p.segments))

contents-written : (p : ImageView) → drop (contents_place p.segments) (elf_of p) ≡ contents p.segments ++ []
contents-written p =
    sym (drop-drop (32 * length p.segments) 52 (elf_of p))
    ∙ ap (drop (32 * length p.segments)) (table-written p)
    ∙ drop_at (table p) (contents p.segments) (32 * length p.segments) (length-table (contents_place p.segments) p.segments)
    ∙ sym (append-nil (contents p.segments))

headers-written : (p : ImageView) → IsWritable p → HasHeaders (elf_of p) 0 (contents_place p.segments) p.segments
headers-written p can =
    let few = can.few in
    let small = can.small in
    record {
      tail = contents p.segments;
      place = ap (λ (h : FileHeader). h.e_phoff) (header-written p can);
      table = table-written p;
      small = omega arith;
      fit = can.segments;
    }

pub image_written : WrittenFilesGiveTheirProgram
unfolding image_of
image_written p can =
    let header = header-written p can in
    let headers = ap (λ (h : FileHeader). map (header_at (elf_of p)) (range_with_len 0 h.e_phnum)) header ∙ headers-read (elf_of p) 0 (contents_place p.segments) p.segments (headers-written p can) in
    let segments = ap (λ hs. map (segment_of (elf_of p)) (filter is_segment hs)) headers
    ∙ segments-read (elf_of p) [] (contents_place p.segments) p.segments (contents-written p) can.segments in
    λ i. record { entry = (header i).e_entry; segments = segments i }

-- a program header of the file
whole : (p : ImageView) → IsWritable p → (i : ℕ) → i < (file_header (elf_of p)).e_phnum → IsWhole (length (elf_of p)) (header_at (elf_of p) i)
whole p can i inside =
    let count : (file_header (elf_of p)).e_phnum ≡ length p.segments = ap (λ (h : FileHeader). h.e_phnum) (header-written p can) in
    let len = length-elf p in
    headers-whole (elf_of p) (length (elf_of p)) 0 (contents_place p.segments) p.segments (headers-written p can) (omega arith) i i (omega arith) (omega arith)

within : (p : ImageView) → IsWritable p → (i : ℕ) → FailsAt (is_out_of_file (length (elf_of p))) (elf_of p) i → ⊥
within p can i fails =
    let good = (whole p can i (fails.segment).number).within in
    let bad = fails.fails in
    grind (arith, nat_tests)

roomy : (p : ImageView) → IsWritable p → (i : ℕ) → FailsAt is_above_memory_size (elf_of p) i → ⊥
roomy p can i fails =
    let good = (whole p can i (fails.segment).number).room in
    let bad = fails.fails in
    grind (arith, nat_tests)

long : (p : ImageView) → IsWritable p → is_short (elf_of p) ≡ true → ⊥
long p can short =
    let len = length-elf p in
    let place : (file_header (elf_of p)).e_phoff ≡ 52 = ap (λ (h : FileHeader). h.e_phoff) (header-written p can) in
    let count : (file_header (elf_of p)).e_phnum ≡ length p.segments = ap (λ (h : FileHeader). h.e_phnum) (header-written p can) in
    grind (arith, nat_tests)

begins : (p : ImageView) → is_elf (elf_of p) ≡ true
unfolding elf_of file_header_bytes
begins p = refl

-- what holds of the header that was written holds of the one that is read
at_header : (p : ImageView) → IsWritable p → (test : FileHeader → Bool) → test (file_header (elf_of p)) ≡ test (header_for_file p.entry (length p.segments))
at_header p can test = ap test (header-written p can)

pub well_formed : WrittenFilesAreWellFormed
well_formed p map (Short at) can low applies = long p can applies.0
well_formed p map NotElf can low applies = let good = begins p in absurd cc
well_formed p map NotClass32Little can low applies = let good = at_header p can is_class_32_little in absurd cc
well_formed p map NotRiscv can low applies = let good = at_header p can is_riscv in absurd cc
well_formed p map NotExec can low applies = let good = at_header p can is_executable in absurd cc
well_formed p map Compressed can low applies = let good = at_header p can is_compressed in absurd cc
well_formed p map Reduced can low applies = let good = at_header p can is_reduced in absurd cc
well_formed p map (HeaderSize size) can low applies =
    let first = applies.0 in let good = at_header p can has_other_headers in absurd (grind (arith, nat_tests))
well_formed p map (SegmentOutOfFile i) can low applies = within p can i applies
well_formed p map (FileSizeAboveMemory i) can low applies = roomy p can i applies
well_formed p map (SegmentOutOfMemory i) can low applies = absurd (omega arith)
well_formed p map (Overlap i j) can low applies = absurd (omega arith)
well_formed p map NoSegment can low applies = absurd (omega arith)
well_formed p map (EntryNotExecutable entry) can low applies = absurd (omega arith)
well_formed p map OutOfMemory can low applies = applies

pub loadable : WrittenFilesAreLoadable
loadable p map can late (Short at) applies = well_formed p map (Short at) can (omega arith) applies
loadable p map can late NotElf applies = well_formed p map NotElf can (omega arith) applies
loadable p map can late NotClass32Little applies = well_formed p map NotClass32Little can (omega arith) applies
loadable p map can late NotRiscv applies = well_formed p map NotRiscv can (omega arith) applies
loadable p map can late NotExec applies = well_formed p map NotExec can (omega arith) applies
loadable p map can late Compressed applies = well_formed p map Compressed can (omega arith) applies
loadable p map can late Reduced applies = well_formed p map Reduced can (omega arith) applies
loadable p map can late (HeaderSize size) applies = well_formed p map (HeaderSize size) can (omega arith) applies
loadable p map can late (SegmentOutOfFile i) applies = well_formed p map (SegmentOutOfFile i) can (omega arith) applies
loadable p map can late (FileSizeAboveMemory i) applies = well_formed p map (FileSizeAboveMemory i) can (omega arith) applies
loadable p map can late (SegmentOutOfMemory i) applies = late (SegmentOutOfMemory i) (omega arith) (omega arith) applies
loadable p map can late (Overlap i j) applies = late (Overlap i j) (omega arith) (omega arith) applies
loadable p map can late NoSegment applies = late NoSegment (omega arith) (omega arith) applies
loadable p map can late (EntryNotExecutable entry) applies = late (EntryNotExecutable entry) (omega arith) (omega arith) applies
loadable p map can late OutOfMemory applies = applies

-- a refusal that is answered is none of the first ten
pub late : (p : ImageView) (map : MemoryMap) (refusal : LoadRefusal) → IsWritable p → Refuses (elf_of p) map refusal → 11 ≤ number_of refusal
late p map (Short at) can refused = absurd (well_formed p map (Short at) can (omega arith) refused.applies)
late p map NotElf can refused = absurd (well_formed p map NotElf can (omega arith) refused.applies)
late p map NotClass32Little can refused = absurd (well_formed p map NotClass32Little can (omega arith) refused.applies)
late p map NotRiscv can refused = absurd (well_formed p map NotRiscv can (omega arith) refused.applies)
late p map NotExec can refused = absurd (well_formed p map NotExec can (omega arith) refused.applies)
late p map Compressed can refused = absurd (well_formed p map Compressed can (omega arith) refused.applies)
late p map Reduced can refused = absurd (well_formed p map Reduced can (omega arith) refused.applies)
late p map (HeaderSize size) can refused = absurd (well_formed p map (HeaderSize size) can (omega arith) refused.applies)
late p map (SegmentOutOfFile i) can refused = absurd (well_formed p map (SegmentOutOfFile i) can (omega arith) refused.applies)
late p map (FileSizeAboveMemory i) can refused = absurd (well_formed p map (FileSizeAboveMemory i) can (omega arith) refused.applies)
late p map (SegmentOutOfMemory i) can refused = omega arith
late p map (Overlap i j) can refused = omega arith
late p map NoSegment can refused = omega arith
late p map (EntryNotExecutable entry) can refused = omega arith
late p map OutOfMemory can refused = omega arith

-- the same of the loader's answer
pub answer-image : (p : ImageView) (map : MemoryMap) (bytes : List ℕ) (answer : Result ImageView LoadRefusal) → IsWritable p → bytes ≡ elf_of p
    → IfOk answer (λ image. IsLoadable bytes map × (image ≡ image_of bytes)) → IfOk answer (λ image. image ≡ as_loaded p)
answer-image p map bytes (Ok image) can written loaded = loaded.1 ∙ ap image_of written ∙ image_written p can
answer-image p map bytes (Err refusal) can written loaded = loaded

pub answer-late : (p : ImageView) (map : MemoryMap) (bytes : List ℕ) (answer : Result ImageView LoadRefusal) → IsWritable p → bytes ≡ elf_of p
    → IfErr answer (Refuses bytes map) → IfErr answer (λ refusal. 11 ≤ number_of refusal)
answer-late p map bytes (Ok image) can written refused = refused
answer-late p map bytes (Err refusal) can written refused =
    late p map refusal can (subst (λ (xs : List ℕ). Refuses xs map refusal) written refused)
