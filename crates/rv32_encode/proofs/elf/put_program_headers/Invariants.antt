use Rattle.std.proofs.Common.{◌≡◌, ◌+◌, ◌<◌, ◌++◌, ℕ, length, drop, slice_index_or}
use Rattle.dash_base.specs.Segment.{SegmentView}
use Rattle.rv32_encode.specs.Written.{FitsHeader}
use Rattle.rv32_encode.specs.Elf.{contents, contents_place, table_bytes}
use Rattle.rv32_encode.proofs.elf.put_program_headers.Given as goal

abbrev pub invariant-loop-segment : goal.invariant-loop-segment
invariant-loop-segment l =
    (l.file.items ++ table_bytes l.offset (drop l.segment-index l.segments)
    ≡ l.fn.file.items ++ table_bytes (contents_place l.segments) l.segments)
    × (l.offset + length (contents (drop l.segment-index l.segments)) ≡ contents_place l.segments + length (contents l.segments))
    × ((k : ℕ) (d : SegmentView) → k < l.segment-index → FitsHeader (slice_index_or l.segments k d))
