-- A line that is not refused stays within the limits.
use Rattle.std.proofs.Common.{◌≡◌, ℕ, ◌+◌, ◌≤◌, ◌<◌, ◌^◌, Bool, true, false, ◌||◌, Option, Some, None, Result, Ok, Err, nat_lt, nat_le, unwrap_or, if◌then◌else◌, arith}
use Rattle.std.proofs.lemmas.Bool.Decides.{nat_tests}
use Rattle.asm_words.specs.Mnemonics.{either}
use Rattle.rv32_asm.specs.Causes.{Definitions, cause_of, long_cause, past, past_from, next, begins, immediate_cause, twice_cause, missing_cause, segment_cause}
use Rattle.rv32_asm.specs.Labels.{moved, size, size_of}
use Rattle.rv32_asm.specs.Limits.{IsWithin}
use Rattle.rv32_asm.specs.Rows.{Reading}
use Rattle.rv32_asm.specs.declared.here.Here.{Here}
use Rattle.rv32_asm.specs.declared.refusal.AsmCause.{AsmCause}
use Rattle.rv32_asm.specs.declared.statement.Statement.{Statement}
use Rattle.rv32_asm.specs.declared.statement.Statement.TheVariants as says

later : (a b : Option AsmCause) → either a b ≡ None → b ≡ None
later (Some c) b e = absurd (cc)
later None b e = e

-- the last cause is none either
not_long : (labels : Definitions) (here : Here) (statement : Statement) → cause_of labels here (Ok statement) ≡ None → long_cause here statement ≡ None
not_long labels here statement e =
    later (segment_cause here.place statement) _ (later (missing_cause labels statement) _ (later (twice_cause labels here.line statement) _ (later (immediate_cause labels here.place statement) _ e)))

room_left : (here : Here) (statement : Statement) → IsWithin here → long_cause here statement ≡ None → here.total + size statement ≤ 16777216
room_left here (says.Segment address flags) within e = omega (arith, within.bytes)
room_left here statement within e = grind (arith, nat_tests)

few_segments : (here : Here) (statement : Statement) → IsWithin here → long_cause here statement ≡ None → here.segments + begins (Ok statement) ≤ 64
few_segments here (says.Segment address flags) within e = grind (arith, nat_tests)
few_segments here statement within e = omega (arith, within.segments)

pub within_next : (labels : Definitions) (here : Here) (said : Reading) → cause_of labels here said ≡ None → IsWithin here → IsWithin (next here said)
within_next labels here (Ok statement) e within =
    let short = not_long labels here statement e in
    record { bytes = room_left here statement within short; segments = few_segments here statement within short }
within_next labels here (Err cause) e within = absurd (cc)
