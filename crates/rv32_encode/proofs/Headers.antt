-- The program headers are read where they were written.
use Rattle.std.proofs.Common.{◌≡◌, ℕ, zero, suc, ◌+◌, ◌*◌, ◌^◌, ◌<◌, ◌≤◌, List, [], ◌∷◌, ◌++◌, length, drop, map, refl, sym, ◌∙◌, ap, subst, append_assoc, arith}
use Rattle.std.proofs.lemmas.List.{drop-drop, drop_at, length-append}
use Rattle.std.specs.List.{range_with_len, All}
use Rattle.dash_base.specs.Segment.{SegmentView}
use Rattle.elf_load.specs.Header.{file_header, header_at, program_header}
use Rattle.elf_load.specs.declared.header.ProgramHeader.{ProgramHeader}
use Rattle.rv32_encode.specs.Elf.{contents, segment_fields, table_bytes, words}
use Rattle.rv32_encode.specs.Written.{FitsHeader}
use Rattle.rv32_encode.proofs.NumbersRead.{header_for, program_header-read}

-- the first segment, and the others
pub first_fits : (s : SegmentView) (ss : List SegmentView) → All FitsHeader (s ∷ ss) → FitsHeader s
first_fits s ss all = all 0 s (omega arith)

pub others_fit : (s : SegmentView) (ss : List SegmentView) → All FitsHeader (s ∷ ss) → All FitsHeader ss
others_fit s ss all = λ k d inside. all (suc k) d (omega arith)

pub length-contents_cons : (s : SegmentView) (ss : List SegmentView) → length (contents (s ∷ ss)) ≡ length s.bytes + length (contents ss)
unfolding contents
length-contents_cons s ss = length-append s.bytes (contents ss)

-- the program headers of segments whose bytes stand one behind the other, from a place on
abbrev pub headers_for : ℕ → List SegmentView → List ProgramHeader
headers_for offset [] = []
headers_for offset (s ∷ ss) = header_for offset s ∷ headers_for (offset + length s.bytes) ss

-- from a number on, the program headers in a file are those of these segments
pub record HasHeaders (bytes : List ℕ) (number offset : ℕ) (ss : List SegmentView) : Type 0 where
  pub tail : List ℕ
  pub place : (file_header bytes).e_phoff ≡ 52
  pub table : drop (52 + 32 * number) bytes ≡ table_bytes offset ss ++ tail
  pub small : offset + length (contents ss) < 2 ^ 32
  pub fit : All FitsHeader ss

table-cons : (offset : ℕ) (s : SegmentView) (ss : List SegmentView) (tail : List ℕ)
    → table_bytes offset (s ∷ ss) ++ tail ≡ words (segment_fields offset s) ++ (table_bytes (offset + length s.bytes) ss ++ tail)
unfolding table_bytes
table-cons offset s ss tail = append_assoc (words (segment_fields offset s)) (table_bytes (offset + length s.bytes) ss) tail

length-words : (offset : ℕ) (s : SegmentView) → length (words (segment_fields offset s)) ≡ 32
unfolding words
length-words offset s = refl

pub first_header : (bytes : List ℕ) (number offset : ℕ) (s : SegmentView) (ss : List SegmentView) → HasHeaders bytes number offset (s ∷ ss)
    → header_at bytes number ≡ header_for offset s
unfolding header_at
first_header bytes number offset s ss has =
    let within = length-contents_cons s ss in
    let small = has.small in
    ap (λ place. program_header bytes (place + 32 * number)) has.place
    ∙ program_header-read bytes _ (52 + 32 * number) offset s (has.table ∙ table-cons offset s ss has.tail) (omega arith) (first_fits s ss has.fit)

pub other_headers : (bytes : List ℕ) (number offset : ℕ) (s : SegmentView) (ss : List SegmentView) → HasHeaders bytes number offset (s ∷ ss)
    → HasHeaders bytes (number + 1) (offset + length s.bytes) ss
other_headers bytes number offset s ss has =
    let within = length-contents_cons s ss in
    let small = has.small in
    let next : 52 + 32 * (number + 1) ≡ 52 + 32 * number + 32 = omega arith in
    record {
      tail = has.tail;
      place = has.place;
      table = ap (λ place. drop place bytes) next
          ∙ sym (drop-drop 32 (52 + 32 * number) bytes)
          ∙ ap (drop 32) (has.table ∙ table-cons offset s ss has.tail)
          ∙ drop_at (words (segment_fields offset s)) (table_bytes (offset + length s.bytes) ss ++ has.tail) 32 (length-words offset s);
      small = omega arith;
      fit = others_fit s ss has.fit;
    }

pub headers-read : (bytes : List ℕ) (number offset : ℕ) (ss : List SegmentView) → HasHeaders bytes number offset ss
    → map (header_at bytes) (range_with_len number (length ss)) ≡ headers_for offset ss
headers-read bytes number offset [] has = refl
headers-read bytes number offset (s ∷ ss) has =
    ap (λ h. h ∷ map (header_at bytes) (range_with_len (number + 1) (length ss))) (first_header bytes number offset s ss has)
    ∙ ap (λ hs. header_for offset s ∷ hs) (headers-read bytes (number + 1) (offset + length s.bytes) ss (other_headers bytes number offset s ss has))

-- a program header whose bytes are in the file, and have room in memory
pub record IsWhole (len : ℕ) (header : ProgramHeader) : Type 0 where
  pub within : header.p_offset + header.p_filesz ≤ len
  pub room : header.p_filesz ≤ header.p_memsz

whole-first : (len offset : ℕ) (s : SegmentView) (header : ProgramHeader) → header ≡ header_for offset s → offset + length s.bytes ≤ len → FitsHeader s → IsWhole len header
whole-first len offset s header is within fits =
    let whole : IsWhole len (header_for offset s) = record { within = within; room = fits.room } in
    subst (λ (h : ProgramHeader). IsWhole len h) (sym is) whole

-- so is each
pub headers-whole : (bytes : List ℕ) (len number offset : ℕ) (ss : List SegmentView) → HasHeaders bytes number offset ss
    → offset + length (contents ss) ≤ len → (k i : ℕ) → number + k ≡ i → k < length ss → IsWhole len (header_at bytes i)
headers-whole bytes len number offset [] has end k i at inside = absurd (omega arith)
headers-whole bytes len number offset (s ∷ ss) has end zero i at inside =
    let within = length-contents_cons s ss in
    let same : i ≡ number = omega arith in
    whole-first len offset s (header_at bytes i) (ap (header_at bytes) same ∙ first_header bytes number offset s ss has) (omega arith) (first_fits s ss has.fit)
headers-whole bytes len number offset (s ∷ ss) has end (suc k) i at inside =
    let within = length-contents_cons s ss in
    headers-whole bytes len (number + 1) (offset + length s.bytes) ss (other_headers bytes number offset s ss has) (omega arith) k i (omega arith) (omega arith)
