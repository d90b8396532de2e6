-- Segments that are being put together.
use Rattle.std.specs.Prelude.{◌≡◌, ℕ, List, [], ◌∷◌, ◌++◌, length, Option, Some, None, Result, Ok, Err}
use Rattle.dash_base.specs.Segment.{SegmentView}
use Rattle.rv32_asm.specs.Causes.{Definitions}
use Rattle.rv32_asm.specs.Programs.{bytes_or, entry_or, line_bytes, segment, segment_or}
use Rattle.rv32_asm.specs.Rows.{Reading}
use Rattle.rv32_asm.specs.declared.assembly.Assembly.{Assembly}
use Rattle.rv32_asm.specs.declared.assembly.Open.{Open}

-- the segment that is open, with more bytes behind those that it has
abbrev pub opened : Option Open → List ℕ → List SegmentView → List SegmentView
opened None more later = later
opened (Some o) more later = segment o.vaddr o.flags (o.bytes.items ++ more) ∷ later

-- the segments, with more bytes in the open one, and later ones
abbrev pub with_more : Assembly → List ℕ → List SegmentView → List SegmentView
with_more a more later = a.closed.items ++ opened a.open more later

-- how many bytes the open segment has
abbrev pub open_len : Option Open → ℕ
open_len None = 0
open_len (Some o) = length o.bytes.items

-- bytes were put behind those of the open segment
abbrev pub Adds : List ℕ → Assembly → Assembly → Type 0
Adds bytes old new = (more : List ℕ) (later : List SegmentView) → with_more new more later ≡ with_more old (bytes ++ more) later

-- a segment was begun
abbrev pub Begins : ℕ → ℕ → Assembly → Assembly → Type 0
Begins address flags old new =
    (more : List ℕ) (later : List SegmentView) → with_more new more later ≡ with_more old [] (segment address flags more ∷ later)

-- a line was put
abbrev pub Puts : Definitions → Option ℕ → Reading → Assembly → Assembly → Type 0
Puts labels place said old new =
    (more : List ℕ) (later : List SegmentView)
    → with_more new more later ≡ with_more old (bytes_or said (line_bytes labels place said) more) (segment_or said (λ address. more) later)
