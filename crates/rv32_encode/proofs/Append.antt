-- Lists that grow by what each item of another list gives.
use Rattle.std.proofs.Common.{◌≡◌, ℕ, ◌+◌, ◌<◌, ◌≤◌, List, ◌∷◌, ◌++◌, length, take, drop, get_or, sym, ◌∙◌, ap, subst, below_more, append_assoc, append-nil, arith}
use Rattle.std.proofs.lemmas.List.{get_or_default, take_more, drop_more, drop_all, flat_map_more, length-append}
use Rattle.std.specs.List.{flat_map}
use Rattle.dash_base.specs.Segment.{SegmentView}
use Rattle.rv32_encode.specs.Written.{FitsHeader}
use Rattle.rv32_encode.specs.Elf.{contents, segment_fields, table_bytes, words}

-- one more item
pub pushed : {X : Type 0} (f : X → List ℕ) (init old new : List ℕ) (xs : List X) (i : ℕ) (d : X) → i < length xs
    → old ≡ init ++ flat_map f (take i xs) → new ≡ old ++ f (get_or xs i d) → new ≡ init ++ flat_map f (take (i + 1) xs)
pushed f init old new xs i d inside before now =
    now
    ∙ ap (λ ys. ys ++ f (get_or xs i d)) before
    ∙ flat_map_more f init (take i xs) (get_or xs i d)
    ∙ ap (λ ys. init ++ flat_map f ys) (sym (take_more xs i d inside))

-- the segments from a place on, by the one that stands there
at_segment : (ss : List SegmentView) (i : ℕ) (s : SegmentView) → i < length ss → s ≡ get_or ss i s → drop i ss ≡ s ∷ drop (i + 1) ss
at_segment ss i s inside is = drop_more ss i s inside ∙ ap (λ (x : SegmentView). x ∷ drop (i + 1) ss) (sym is)

-- one more program header
header-pushed : (init old new : List ℕ) (offset : ℕ) (s : SegmentView) (ss rest : List SegmentView) → ss ≡ s ∷ rest
    → old ++ table_bytes offset ss ≡ init → new ≡ old ++ words (segment_fields offset s) → new ++ table_bytes (offset + length s.bytes) rest ≡ init
unfolding table_bytes
header-pushed init old new offset s ss rest is before now =
    ap (λ ys. ys ++ table_bytes (offset + length s.bytes) rest) now
    ∙ append_assoc old (words (segment_fields offset s)) (table_bytes (offset + length s.bytes) rest)
    ∙ ap (λ xs. old ++ table_bytes offset xs) (sym is)
    ∙ before

-- the bytes of one segment and of those behind it
length-contents : (s : SegmentView) (ss rest : List SegmentView) → ss ≡ s ∷ rest
    → length (contents ss) ≡ length s.bytes + length (contents rest)
unfolding contents
length-contents s ss rest is = ap (λ xs. length (contents xs)) is ∙ length-append s.bytes (contents rest)

-- the bytes of a segment end where all do, or before
pub size-within : (offset size total : ℕ) (ss : List SegmentView) (i : ℕ) (s : SegmentView) → i < length ss → s ≡ get_or ss i s
    → size ≡ length s.bytes → offset + length (contents (drop i ss)) ≡ total → offset + size ≤ total
size-within offset size total ss i s inside is same ends =
    let split = length-contents s (drop i ss) (drop (i + 1) ss) (at_segment ss i s inside is) in omega arith

-- the next turn of the loop over the segments
pub next-header : (init old new : List ℕ) (offset size total : ℕ) (ss : List SegmentView) (i : ℕ) (s : SegmentView) → i < length ss → s ≡ get_or ss i s
    → size ≡ length s.bytes → old ++ table_bytes offset (drop i ss) ≡ init → offset + length (contents (drop i ss)) ≡ total
    → new ≡ old ++ words (segment_fields offset s)
    → (new ++ table_bytes (offset + size) (drop (i + 1) ss) ≡ init) × (offset + size + length (contents (drop (i + 1) ss)) ≡ total)
next-header init old new offset size total ss i s inside is same before ends now =
    let here = at_segment ss i s inside is in
    let split = length-contents s (drop i ss) (drop (i + 1) ss) here in
    (ap (λ n. new ++ table_bytes (offset + n) (drop (i + 1) ss)) same ∙ header-pushed init old new offset s (drop i ss) (drop (i + 1) ss) here before now, omega arith)

-- the end of the loop
pub all-headers : (init old : List ℕ) (offset : ℕ) (ss : List SegmentView) (i : ℕ) → length ss ≤ i
    → old ++ table_bytes offset (drop i ss) ≡ init → old ≡ init
unfolding table_bytes
all-headers init old offset ss i over before =
    sym (append-nil old) ∙ ap (λ xs. old ++ table_bytes offset xs) (sym (drop_all i ss over)) ∙ before

-- one more segment that fits its header
pub fits-more : (ss : List SegmentView) (i : ℕ) (s : SegmentView) → i < length ss → s ≡ get_or ss i s → FitsHeader s
    → ((k : ℕ) (d : SegmentView) → k < i → FitsHeader (get_or ss k d)) → (k : ℕ) (d : SegmentView) → k < i + 1 → FitsHeader (get_or ss k d)
fits-more ss i s inside is fits before k d below =
    let here : FitsHeader (get_or ss i d) = subst FitsHeader (is ∙ get_or_default ss i s d inside) fits in
    below_more _ _ (λ j h. before j d h) here k below
