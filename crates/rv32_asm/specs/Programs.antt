-- The program that a source says.
use Rattle.std.specs.Prelude.{ℕ, ◌+◌, ◌-◌, ◌*◌, ◌/◌, ◌%◌, ◌^◌, List, [], ◌∷◌, ◌++◌, length, ℤ, pos, ◌-ℤ◌, Option, Some, None, Result, Ok, Err, if◌then◌else◌}
use Rattle.std.specs.List.{repeat}
use Rattle.dash_base.specs.Segment.{SegmentView}
use Rattle.dash_base.specs.declared.ops.BranchOp.{BranchOp}
use Rattle.elf_load.specs.Image.{ImageView}
use Rattle.rv32_decode.specs.Layout.{in_bits, u_type, i_type, j_type, b_type, branch_funct3}
use Rattle.rv32_encode.specs.Elf.{words}
use Rattle.rv32_asm.specs.Causes.{Definitions, least_branch, greatest_branch, least_jump, greatest_jump}
use Rattle.rv32_asm.specs.Fields.{fits}
use Rattle.rv32_asm.specs.Labels.{definitions, lines, moved}
use Rattle.rv32_asm.specs.Lines.{reading}
use Rattle.rv32_asm.specs.Rows.{Reading}
use Rattle.rv32_asm.specs.declared.labels.Definition.{Definition}
use Rattle.rv32_asm.specs.declared.statement.Statement.{Statement}
use Rattle.rv32_asm.specs.declared.statement.Statement.TheVariants as says

-- the address of a label
abbrev pub address_at : Option Definition → ℕ
address_at (Some d) = d.address % 2 ^ 32
address_at None = 0

-- the offset from an address to a label that it reaches
abbrev pub reach : ℤ → ℤ → Option ℕ → Option Definition → ℤ
reach least greatest (Some place) (Some d) =
    if fits least greatest 2 (pos d.address -ℤ pos place) then pos d.address -ℤ pos place else pos 0
reach least greatest _ _ = pos 0

-- the pair LUI and ADDI that gives a register a value: what ADDI adds is signed, so the upper part is rounded
abbrev pub upper_part : ℕ → ℕ
upper_part value = (value + 2048) % 2 ^ 32 / 4096

abbrev pub pair_words : ℕ → ℕ → List ℕ
pair_words rd value =
    u_type (4096 * upper_part value) rd 0b0110111 ∷ i_type (value % 4096) rd 0b000 rd 0b0010011 ∷ []

-- the words that a line puts
abbrev pub line_words : Definitions → Option ℕ → Statement → List ℕ
line_words labels place (says.Put word) = word ∷ []
line_words labels place (says.PutAddress label) = address_at (labels label) ∷ []
line_words labels place (says.Branch op rs1 rs2 label) =
    b_type (in_bits 13 (reach least_branch greatest_branch place (labels label))) rs2 rs1 (branch_funct3 op) 0b1100011 ∷ []
line_words labels place (says.Jump rd label) =
    j_type (in_bits 21 (reach least_jump greatest_jump place (labels label))) rd 0b1101111 ∷ []
line_words labels place (says.Pair rd value) = pair_words rd value
line_words labels place (says.PairAddress rd label) = pair_words rd (address_at (labels label))
line_words labels place _ = []

-- the bytes that a line puts: of a word the lowest first
abbrev pub line_bytes : Definitions → Option ℕ → Reading → List ℕ
line_bytes labels place (Ok (says.Space n)) = repeat n (0 ∷ [])
line_bytes labels place (Ok statement) = words (line_words labels place statement)
line_bytes labels place (Err cause) = []

abbrev pub bytes_or : Reading → List ℕ → List ℕ → List ℕ
bytes_or (Ok (says.Segment address flags)) bytes rest = []
bytes_or said bytes rest = bytes ++ rest

-- the bytes of lines up to the next segment
unfoldable pub bytes_until : Definitions → Option ℕ → List (List ℕ) → List ℕ
bytes_until labels place [] = []
bytes_until labels place (l ∷ ls) =
    bytes_or (reading l) (line_bytes labels place (reading l)) (bytes_until labels (moved place (reading l)) ls)

-- a segment of bytes
abbrev pub segment : ℕ → ℕ → List ℕ → SegmentView
segment address flags bytes = record { vaddr = address; memsz = length bytes; flags = flags; bytes = bytes }

abbrev pub segment_or : Reading → (ℕ → List ℕ) → List SegmentView → List SegmentView
segment_or (Ok (says.Segment address flags)) bytes rest = segment address flags (bytes address) ∷ rest
segment_or said bytes rest = rest

-- the segments of lines, each with the bytes up to the next
unfoldable pub segments_of : Definitions → List (List ℕ) → List SegmentView
segments_of labels [] = []
segments_of labels (l ∷ ls) = segment_or (reading l) (λ address. bytes_until labels (Some address) ls) (segments_of labels ls)

abbrev pub entry_or : Definitions → Option ℕ → Reading → Option ℕ
entry_or labels entry (Ok (says.Entry label)) = Some (address_at (labels label))
entry_or labels entry _ = entry

-- the last entry that a line sets
unfoldable pub entry_of : Definitions → Option ℕ → List (List ℕ) → Option ℕ
entry_of labels entry [] = entry
entry_of labels entry (l ∷ ls) = entry_of labels (entry_or labels entry (reading l)) ls

-- the entry, or the first segment's address, or 0
abbrev pub start_of : Option ℕ → List SegmentView → ℕ
start_of (Some entry) segments = entry
start_of None [] = 0
start_of None (s ∷ rest) = s.vaddr

abbrev pub program_by : Definitions → List (List ℕ) → ImageView
program_by labels ls = record { entry = start_of (entry_of labels None ls) (segments_of labels ls); segments = segments_of labels ls }

-- the program of a source
abbrev pub program_of : List ℕ → ImageView
program_of source = program_by (definitions source) (lines source)
