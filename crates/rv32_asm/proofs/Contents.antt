-- The bytes of the segments are those of the lines.
use Rattle.std.proofs.Common.{◌≡◌, ℕ, ◌+◌, ◌<◌, ◌≤◌, Bool, true, false, List, [], ◌∷◌, ◌++◌, Option, Some, None, Result, Ok, Err, nat_lt, if◌then◌else◌, option_map, refl, ap, sym, subst, ◌∙◌, append_assoc, arith}
use Rattle.std.proofs.lemmas.Bool.Decides.{nat_tests}
use Rattle.std.specs.List.{repeat}
use Rattle.dash_base.specs.Segment.{SegmentView}
use Rattle.rv32_encode.specs.Elf.{contents, words}
use Rattle.asm_words.specs.Mnemonics.{either}
use Rattle.rv32_asm.specs.Causes.{Definitions, cause_of, first_refusal, homeless, immediate_cause, missing_cause, next, refused_or, segment_cause, start, twice_cause, long_cause}
use Rattle.rv32_asm.specs.Labels.{definitions, lines, moved, size}
use Rattle.rv32_asm.specs.Lines.{reading}
use Rattle.rv32_asm.specs.Orders.{bytes_of_lines}
use Rattle.rv32_asm.specs.Programs.{bytes_or, bytes_until, line_bytes, segment_or, segments_of}
use Rattle.rv32_asm.specs.Rows.{Reading}
use Rattle.rv32_asm.specs.declared.here.Here.{Here}
use Rattle.rv32_asm.specs.declared.refusal.AsmCause.{AsmCause}
use Rattle.rv32_asm.specs.declared.refusal.AsmRefusal.{AsmRefusal}
use Rattle.rv32_asm.specs.declared.statement.Statement.{Statement}
use Rattle.rv32_asm.specs.declared.statement.Statement.TheVariants as says

-- within a segment
within_line : (labels : Definitions) (a : ℕ) (said : Reading) (rest : List (List ℕ)) (later : List SegmentView)
    → ((b : ℕ) → bytes_until labels (Some b) rest ++ contents later ≡ bytes_of_lines labels (Some b) rest)
    → bytes_or said (line_bytes labels (Some a) said) (bytes_until labels (moved (Some a) said) rest)
    ++ contents (segment_or said (λ address. bytes_until labels (Some address) rest) later)
    ≡ line_bytes labels (Some a) said ++ bytes_of_lines labels (moved (Some a) said) rest
unfolding contents words
within_line labels a (Ok (says.Segment address flags)) rest later induct = induct address
within_line labels a (Ok statement) rest later induct =
    append_assoc (line_bytes labels (Some a) (Ok statement)) (bytes_until labels (Some (a + size statement)) rest) (contents later)
    ∙ ap (λ xs. line_bytes labels (Some a) (Ok statement) ++ xs) (induct (a + size statement))
within_line labels a (Err cause) rest later induct = induct a

within : (labels : Definitions) (ls : List (List ℕ)) (a : ℕ) → bytes_until labels (Some a) ls ++ contents (segments_of labels ls) ≡ bytes_of_lines labels (Some a) ls
unfolding bytes_until segments_of bytes_of_lines contents
within labels [] a = refl
within labels (l ∷ ls) a = within_line labels a (reading l) ls (segments_of labels ls) (within labels ls)

later : (a b : Option AsmCause) → either a b ≡ None → b ≡ None
later (Some c) b e = absurd (cc)
later None b e = e

first_none : (a b : Option AsmCause) → either a b ≡ None → a ≡ None
first_none (Some c) b e = absurd (cc)
first_none None b e = refl

-- before any segment nothing is put
housed : (labels : Definitions) (here : Here) (statement : Statement) → cause_of labels here (Ok statement) ≡ None → segment_cause here.place statement ≡ None
housed labels here statement e =
    first_none (segment_cause here.place statement) (long_cause here statement)
    (later (missing_cause labels statement) _ (later (twice_cause labels here.line statement) _ (later (immediate_cause labels here.place statement) _ e)))

nothing_put : (labels : Definitions) (statement : Statement) → homeless statement ≡ None → line_bytes labels None (Ok statement) ≡ []
unfolding words
nothing_put labels statement e = grind (arith, nat_tests)

pub accepted : (line : ℕ) (cause : Option AsmCause) (rest : Option AsmRefusal) → refused_or line cause rest ≡ None → cause ≡ None
accepted line (Some c) rest e = absurd (cc)
accepted line None rest e = refl

pub rest_accepted : (line : ℕ) (cause : Option AsmCause) (rest : Option AsmRefusal) → refused_or line cause rest ≡ None → rest ≡ None
rest_accepted line (Some c) rest e = absurd (cc)
rest_accepted line None rest e = e

no_house : (labels : Definitions) (here : Here) (statement : Statement) → here.place ≡ None → cause_of labels here (Ok statement) ≡ None → homeless statement ≡ None
no_house labels here statement none e = ap (λ p. segment_cause p statement) (sym none) ∙ housed labels here statement e

before_line : (labels : Definitions) (here : Here) (said : Reading) (rest : List (List ℕ)) → here.place ≡ None → cause_of labels here said ≡ None
    → (moved None said ≡ None → contents (segments_of labels rest) ≡ bytes_of_lines labels None rest)
    → contents (segment_or said (λ address. bytes_until labels (Some address) rest) (segments_of labels rest))
    ≡ line_bytes labels None said ++ bytes_of_lines labels (moved None said) rest
unfolding contents words
before_line labels here (Ok (says.Segment address flags)) rest none e induct = within labels rest address
before_line labels here (Ok statement) rest none e induct =
    induct refl ∙ ap (λ xs. xs ++ bytes_of_lines labels None rest) (sym (nothing_put labels statement (no_house labels here statement none e)))
before_line labels here (Err cause) rest none e induct = absurd (cc)

outside : (labels : Definitions) (ls : List (List ℕ)) (here : Here) → here.place ≡ None → first_refusal labels here ls ≡ None
    → contents (segments_of labels ls) ≡ bytes_of_lines labels None ls
unfolding segments_of bytes_of_lines contents first_refusal
outside labels [] here none e = refl
outside labels (l ∷ ls) here none e =
    before_line labels here (reading l) ls none (accepted here.line (cause_of labels here (reading l)) (first_refusal labels (next here (reading l)) ls) e)
    (λ stays. outside labels ls (next here (reading l)) (ap (λ p. moved p (reading l)) none ∙ stays)
    (rest_accepted here.line (cause_of labels here (reading l)) (first_refusal labels (next here (reading l)) ls) e))

pub bytes_follow : (source : List ℕ) → first_refusal (definitions source) start (lines source) ≡ None
    → contents (segments_of (definitions source) (lines source)) ≡ bytes_of_lines (definitions source) None (lines source)
bytes_follow source e = outside (definitions source) (lines source) start refl e
