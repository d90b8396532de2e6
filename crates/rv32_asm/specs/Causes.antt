-- Which line of a source is refused, and why.
use Rattle.std.specs.Prelude.{ℕ, ◌+◌, ◌^◌, ◌==◌, ◌||◌, Bool, false, List, [], ◌∷◌, ℤ, pos, neg_ℤ, ◌-ℤ◌, nat_le, nat_lt, Option, Some, None, Result, Ok, Err, if◌then◌else◌}
use Rattle.asm_words.specs.Mnemonics.{either}
use Rattle.rv32_asm.specs.Fields.{fits}
use Rattle.rv32_asm.specs.Labels.{definitions, lines, moved, size, size_of}
use Rattle.rv32_asm.specs.Lines.{reading}
use Rattle.rv32_asm.specs.Rows.{Reading}
use Rattle.rv32_asm.specs.declared.here.Here.{Here}
use Rattle.rv32_asm.specs.declared.labels.Definition.{Definition}
use Rattle.rv32_asm.specs.declared.refusal.AsmCause.{AsmCause}
use Rattle.rv32_asm.specs.declared.refusal.AsmCause.TheVariants.{Immediate, Twice, Missing, NoSegment, TooLong}
use Rattle.rv32_asm.specs.declared.refusal.AsmRefusal.{AsmRefusal}
use Rattle.rv32_asm.specs.declared.refusal.AsmRefusal.TheVariants.{At}
use Rattle.rv32_asm.specs.declared.statement.Statement.{Statement}
use Rattle.rv32_asm.specs.declared.statement.Statement.TheVariants as says

-- where each label is defined
abbrev pub Definitions : Type 0
Definitions = List ℕ → Option Definition

-- the least and the greatest offset of a branch and of a jump
abbrev pub least_branch : ℤ
least_branch = neg_ℤ (pos 4096)

abbrev pub greatest_branch : ℤ
greatest_branch = pos 4094

abbrev pub least_jump : ℤ
least_jump = neg_ℤ (pos 1048576)

abbrev pub greatest_jump : ℤ
greatest_jump = pos 1048574

abbrev pub offset_cause : ℤ → ℤ → Option ℕ → Option Definition → Option AsmCause
offset_cause least greatest (Some place) (Some d) =
    if fits least greatest 2 (pos d.address -ℤ pos place) then None else Some Immediate
offset_cause least greatest _ _ = None

-- the offset to a defined label is out of its field's range, or odd
abbrev pub immediate_cause : Definitions → Option ℕ → Statement → Option AsmCause
immediate_cause labels place (says.Branch op rs1 rs2 label) = offset_cause least_branch greatest_branch place (labels label)
immediate_cause labels place (says.Jump rd label) = offset_cause least_jump greatest_jump place (labels label)
immediate_cause labels place _ = None

abbrev pub other_line : ℕ → Option Definition → Option AsmCause
other_line line (Some d) = if d.line == line then None else Some Twice
other_line line None = None

-- another line defines the label first
abbrev pub twice_cause : Definitions → ℕ → Statement → Option AsmCause
twice_cause labels line (says.Label label) = other_line line (labels label)
twice_cause labels line _ = None

abbrev pub undefined : Option Definition → Option AsmCause
undefined (Some d) = None
undefined None = Some Missing

-- the label that is named is not defined
abbrev pub missing_cause : Definitions → Statement → Option AsmCause
missing_cause labels (says.Branch op rs1 rs2 label) = undefined (labels label)
missing_cause labels (says.Jump rd label) = undefined (labels label)
missing_cause labels (says.PutAddress label) = undefined (labels label)
missing_cause labels (says.PairAddress rd label) = undefined (labels label)
missing_cause labels (says.Entry label) = undefined (labels label)
missing_cause labels _ = None

-- a label, or bytes, before any segment
abbrev pub homeless : Statement → Option AsmCause
homeless (says.Label label) = Some NoSegment
homeless statement = if nat_lt 0 (size statement) then Some NoSegment else None

abbrev pub segment_cause : Option ℕ → Statement → Option AsmCause
segment_cause None statement = homeless statement
segment_cause (Some place) statement = None

-- an address past 2^32 - 1: of a byte, or of a label
abbrev pub past_from : ℕ → Statement → Bool
past_from place (says.Label label) = nat_le (2 ^ 32) place
past_from place statement = nat_lt (2 ^ 32) (place + size statement)

abbrev pub past : Option ℕ → Statement → Bool
past None statement = false
past (Some place) statement = past_from place statement

-- more than 64 segments, more than 16,777,216 bytes, or an address past 2^32 - 1
abbrev pub long_cause : Here → Statement → Option AsmCause
long_cause here (says.Segment address flags) = if nat_le 64 here.segments then Some TooLong else None
long_cause here statement =
    if nat_lt 16777216 (here.total + size statement) || past here.place statement then Some TooLong else None

-- the first cause for which a line is refused, by what stands before it and the labels of the source
abbrev pub cause_of : Definitions → Here → Reading → Option AsmCause
cause_of labels here (Err cause) = Some cause
cause_of labels here (Ok statement) =
    either (immediate_cause labels here.place statement)
    (either (twice_cause labels here.line statement)
    (either (missing_cause labels statement)
    (either (segment_cause here.place statement)
    (long_cause here statement))))

abbrev pub begins : Reading → ℕ
begins (Ok (says.Segment address flags)) = 1
begins _ = 0

-- what stands before the next line
abbrev pub next : Here → Reading → Here
next here said = record {
  line = here.line + 1;
  place = moved here.place said;
  total = here.total + size_of said;
  segments = here.segments + begins said;
}

-- what stands before the first line
abbrev pub start : Here
start = record { line = 1; place = None; total = 0; segments = 0 }

abbrev pub refused_or : ℕ → Option AsmCause → Option AsmRefusal → Option AsmRefusal
refused_or line (Some cause) later = Some (At line cause)
refused_or line None later = later

-- the least line that is refused, and its first cause
unfoldable pub first_refusal : Definitions → Here → List (List ℕ) → Option AsmRefusal
first_refusal labels here [] = None
first_refusal labels here (l ∷ ls) =
    refused_or here.line (cause_of labels here (reading l)) (first_refusal labels (next here (reading l)) ls)

-- of a source
abbrev pub refusal_of : List ℕ → Option AsmRefusal
refusal_of source = first_refusal (definitions source) start (lines source)
