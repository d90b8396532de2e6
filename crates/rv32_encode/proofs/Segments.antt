-- The segments are read where they were written, but for those of no bytes.
use Rattle.std.proofs.Common.{◌≡◌, ℕ, ◌+◌, ◌-◌, Bool, true, false, cond, not, ◌==◌, List, [], ◌∷◌, ◌++◌, length, take, drop, map, filter, refl, sym, ◌∙◌, ap, append_assoc, arith}
use Rattle.std.proofs.lemmas.List.{drop-drop, drop_at, take_at}
use Rattle.std.proofs.lemmas.Bool.Decides.{nat_tests}
use Rattle.std.specs.List.{All}
use Rattle.dash_base.specs.Segment.{SegmentView}
use Rattle.elf_load.specs.Loader.{segment_of}
use Rattle.elf_load.specs.Refusal.{is_segment}
use Rattle.elf_load.specs.declared.header.ProgramHeader.{ProgramHeader}
use Rattle.rv32_encode.specs.Elf.{contents}
use Rattle.rv32_encode.specs.Written.{FitsHeader}
use Rattle.rv32_encode.proofs.NumbersRead.{header_for}
use Rattle.rv32_encode.proofs.Headers.{first_fits, others_fit, headers_for}

contents-cons : (s : SegmentView) (ss : List SegmentView) (tail : List ℕ) → contents (s ∷ ss) ++ tail ≡ s.bytes ++ (contents ss ++ tail)
unfolding contents
contents-cons s ss tail = append_assoc s.bytes (contents ss) tail

-- its bytes
bytes-read : (bytes tail : List ℕ) (offset : ℕ) (s : SegmentView) → drop offset bytes ≡ s.bytes ++ tail
    → take (offset + length s.bytes - offset) (drop offset bytes) ≡ s.bytes
bytes-read bytes tail offset s there =
    let size : offset + length s.bytes - offset ≡ length s.bytes = omega arith in
    ap (λ n. take n (drop offset bytes)) size ∙ ap (take (length s.bytes)) there ∙ take_at s.bytes tail (length s.bytes) refl

segment-read : (bytes tail : List ℕ) (offset : ℕ) (s : SegmentView) → drop offset bytes ≡ s.bytes ++ tail
    → segment_of bytes (header_for offset s) ≡ s
segment-read bytes tail offset s there =
    let read = bytes-read bytes tail offset s there in
    λ i. record { vaddr = s.vaddr; memsz = s.memsz; flags = s.flags; bytes = read i }

-- a segment counts where it has bytes in memory
counts : (offset : ℕ) (s : SegmentView) → FitsHeader s → is_segment (header_for offset s) ≡ not (s.memsz == 0)
counts offset s fits = let room = fits.room in grind (arith, nat_tests)

map-cond : (f : ProgramHeader → SegmentView) (b c : Bool) (h : ProgramHeader) (hs : List ProgramHeader) (s : SegmentView) (ss : List SegmentView)
    → b ≡ c → f h ≡ s → map f hs ≡ ss → map f (cond b (h ∷ hs) hs) ≡ cond c (s ∷ ss) ss
map-cond f b true h hs s ss same one all =
    ap (λ x. map f (cond x (h ∷ hs) hs)) same ∙ ap (λ x. x ∷ map f hs) one ∙ ap (λ xs. s ∷ xs) all
map-cond f b false h hs s ss same one all =
    ap (λ x. map f (cond x (h ∷ hs) hs)) same ∙ all

pub segments-read : (bytes tail : List ℕ) (offset : ℕ) (ss : List SegmentView) → drop offset bytes ≡ contents ss ++ tail → All FitsHeader ss
    → map (segment_of bytes) (filter is_segment (headers_for offset ss)) ≡ filter (λ (s : SegmentView). not (s.memsz == 0)) ss
segments-read bytes tail offset [] there fit = refl
segments-read bytes tail offset (s ∷ ss) there fit =
    let here : drop offset bytes ≡ s.bytes ++ (contents ss ++ tail) = there ∙ contents-cons s ss tail in
    let next : drop (offset + length s.bytes) bytes ≡ contents ss ++ tail =
    sym (drop-drop (length s.bytes) offset bytes) ∙ ap (drop (length s.bytes)) here ∙ drop_at s.bytes (contents ss ++ tail) (length s.bytes) refl in
    map-cond (segment_of bytes) _ _ (header_for offset s) _ s _ (counts offset s (first_fits s ss fit)) (segment-read bytes _ offset s here)
    (segments-read bytes tail (offset + length s.bytes) ss next (others_fit s ss fit))
