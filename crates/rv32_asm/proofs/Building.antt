-- The program is built line by line.
use Rattle.std.proofs.Common.{◌≡◌, ℕ, ◌+◌, ◌*◌, ◌^◌, ◌<◌, ◌≤◌, length, List, [], ◌∷◌, ◌++◌, Option, Some, None, Result, Ok, Err, unwrap_or, if◌then◌else◌, refl, ap, sym, subst, ◌∙◌, arith}
use Rattle.dash_base.specs.Segment.{SegmentView}
use Rattle.elf_load.specs.Image.{ImageView}
use Rattle.asm_words.specs.Cuts.{before, behind, is_mark}
use Rattle.rv32_asm.specs.Assembled.{IsAssembledBy}
use Rattle.rv32_asm.specs.Assembling.{opened, with_more, open_len, Puts}
use Rattle.rv32_asm.specs.Causes.{Definitions, cause_of, first_refusal, refused_or, next, start}
use Rattle.rv32_asm.specs.Labels.{lines, moved, size_of}
use Rattle.rv32_asm.specs.Limits.{IsWithin}
use Rattle.rv32_asm.specs.Lines.{reading}
use Rattle.rv32_asm.specs.Programs.{bytes_or, bytes_until, entry_of, entry_or, line_bytes, program_by, segment, segment_or, segments_of, start_of}
use Rattle.rv32_asm.specs.Rows.{Reading}
use Rattle.rv32_asm.specs.declared.assembly.Assembly.{Assembly}
use Rattle.rv32_asm.specs.declared.here.Here.{Here}
use Rattle.rv32_asm.specs.declared.refusal.AsmCause.{AsmCause}
use Rattle.rv32_asm.specs.declared.refusal.AsmRefusal.{AsmRefusal}
use Rattle.rv32_asm.specs.declared.refusal.AsmRefusal.TheVariants.{At}
use Rattle.rv32_asm.specs.declared.statement.Statement.TheVariants as says
use Rattle.rv32_asm.proofs.Accepted.{within_next}
use Rattle.rv32_asm.proofs.Walk.{left, left_step, room, room_less}

-- what is built, and what is left
pub record Builds (labels : Definitions) (source : List ℕ) (a : Assembly) (here : Here) (rest : Option (List ℕ)) : Type 0 where
  pub refusals : first_refusal labels here (left rest) ≡ first_refusal labels start (lines source)
  pub segments : with_more a (bytes_until labels here.place (left rest)) (segments_of labels (left rest)) ≡ segments_of labels (lines source)
  pub entry : entry_of labels a.entry (left rest) ≡ entry_of labels None (lines source)
  pub within : IsWithin here
  pub near : unwrap_or here.place 0 ≤ 2 ^ 32 * here.line
  pub counted : here.line + room rest ≤ length source + 2
  pub len : open_len a.open ≤ here.total

pub build_start : (labels : Definitions) (source : List ℕ) (a : Assembly) → a.closed.items ≡ [] → a.open ≡ None → a.entry ≡ None
    → Builds labels source a start (Some source)
build_start labels source a closed open_none entry = record {
  refusals = refl;
  segments =
      ap (λ cs. cs ++ opened a.open (bytes_until labels None (lines source)) (segments_of labels (lines source))) closed
      ∙ ap (λ o. opened o (bytes_until labels None (lines source)) (segments_of labels (lines source))) open_none;
  entry = ap (λ e. entry_of labels e (lines source)) entry;
  within = record { bytes = omega arith; segments = omega arith };
  near = omega arith;
  counted = omega arith;
  len = let none : open_len a.open ≡ 0 = ap open_len open_none in omega arith;
}

-- one line more
refusal_step : (labels : Definitions) (here : Here) (line : List ℕ) (rest : List (List ℕ)) → cause_of labels here (reading line) ≡ None
    → first_refusal labels here (line ∷ rest) ≡ first_refusal labels (next here (reading line)) rest
unfolding first_refusal
refusal_step labels here line rest none =
    ap (λ c. refused_or here.line c (first_refusal labels (next here (reading line)) rest)) none

refusal_found : (labels : Definitions) (here : Here) (line : List ℕ) (rest : List (List ℕ)) (cause : AsmCause)
    → cause_of labels here (reading line) ≡ Some cause → first_refusal labels here (line ∷ rest) ≡ Some (At here.line cause)
unfolding first_refusal
refusal_found labels here line rest cause found =
    ap (λ c. refused_or here.line c (first_refusal labels (next here (reading line)) rest)) found

entry_step : (labels : Definitions) (entry : Option ℕ) (line : List ℕ) (rest : List (List ℕ))
    → entry_of labels entry (line ∷ rest) ≡ entry_of labels (entry_or labels entry (reading line)) rest
unfolding entry_of
entry_step labels entry line rest = refl

bytes_step : (labels : Definitions) (place : Option ℕ) (line : List ℕ) (rest : List (List ℕ))
    → bytes_until labels place (line ∷ rest) ≡ bytes_or (reading line) (line_bytes labels place (reading line)) (bytes_until labels (moved place (reading line)) rest)
unfolding bytes_until
bytes_step labels place line rest = refl

segment_alike : (labels : Definitions) (place : Option ℕ) (said : Reading) (rest : List (List ℕ)) (later : List SegmentView)
    → segment_or said (λ address. bytes_until labels (Some address) rest) later ≡ segment_or said (λ address. bytes_until labels (moved place said) rest) later
segment_alike labels place (Ok (says.Segment address flags)) rest later = refl
segment_alike labels place (Ok statement) rest later = refl
segment_alike labels place (Err cause) rest later = refl

segments_step : (labels : Definitions) (place : Option ℕ) (line : List ℕ) (rest : List (List ℕ))
    → segments_of labels (line ∷ rest) ≡ segment_or (reading line) (λ address. bytes_until labels (moved place (reading line)) rest) (segments_of labels rest)
unfolding segments_of
segments_step labels place line rest = segment_alike labels place (reading line) rest (segments_of labels rest)

put_step : (labels : Definitions) (place : Option ℕ) (old new : Assembly) (line : List ℕ) (rest : List (List ℕ))
    → Puts labels place (reading line) old new
    → with_more new (bytes_until labels (moved place (reading line)) rest) (segments_of labels rest)
    ≡ with_more old (bytes_until labels place (line ∷ rest)) (segments_of labels (line ∷ rest))
put_step labels place old new line rest puts =
    puts (bytes_until labels (moved place (reading line)) rest) (segments_of labels rest)
    ∙ ap (λ bytes. with_more old bytes (segment_or (reading line) (λ address. bytes_until labels (moved place (reading line)) rest) (segments_of labels rest))) (sym (bytes_step labels place line rest))
    ∙ ap (λ segments. with_more old (bytes_until labels place (line ∷ rest)) segments) (sym (segments_step labels place line rest))

pub build_next : (labels : Definitions) (source text : List ℕ) (old new : Assembly) (here : Here)
    → Builds labels source old here (Some text)
    → cause_of labels here (reading (before (is_mark 10) text)) ≡ None
    → Puts labels here.place (reading (before (is_mark 10) text)) old new
    → open_len new.open ≤ open_len old.open + size_of (reading (before (is_mark 10) text))
    → new.entry ≡ entry_or labels old.entry (reading (before (is_mark 10) text))
    → unwrap_or (moved here.place (reading (before (is_mark 10) text))) 0 ≤ unwrap_or here.place 0 + 2 ^ 32
    → Builds labels source new (next here (reading (before (is_mark 10) text))) (behind (is_mark 10) text)
build_next labels source text old new here sofar none puts len entry bound =
    let line = before (is_mark 10) text in
    let rest = left (behind (is_mark 10) text) in
    record {
      refusals = sym (refusal_step labels here line rest none) ∙ ap (first_refusal labels here) (sym (left_step text)) ∙ sofar.refusals;
      segments =
          put_step labels here.place old new line rest puts
          ∙ ap (λ ls. with_more old (bytes_until labels here.place ls) (segments_of labels ls)) (sym (left_step text))
          ∙ sofar.segments;
      entry =
          ap (λ e. entry_of labels e rest) entry
          ∙ sym (entry_step labels old.entry line rest)
          ∙ ap (entry_of labels old.entry) (sym (left_step text))
          ∙ sofar.entry;
      within = within_next labels here (reading line) none sofar.within;
      near = let near = sofar.near in omega arith;
      counted = let less = room_less text in let counted = sofar.counted in omega arith;
      len = let before_it = sofar.len in omega arith;
    }

pub build_turn : (labels : Definitions) (source text front behind_it line_text : List ℕ) (said : Reading) (rest next_rest : Option (List ℕ))
    (old new : Assembly) (here after : Here) (found : Option AsmCause)
    → rest ≡ Some text → front ≡ text → line_text ≡ before (is_mark 10) front → said ≡ reading line_text
    → behind_it ≡ text → next_rest ≡ behind (is_mark 10) behind_it
    → Builds labels source old here rest
    → found ≡ cause_of labels here said → found ≡ None
    → Puts labels here.place said old new
    → open_len new.open ≤ open_len old.open + size_of said
    → new.entry ≡ entry_or labels old.entry said
    → after ≡ next here said
    → unwrap_or after.place 0 ≤ unwrap_or here.place 0 + 2 ^ 32
    → Builds labels source new after next_rest
build_turn labels source text front behind_it line_text said rest next_rest old new here after found some fronts lines_is reads behinds next_is sofar cause none puts len entry after_is bound =
    let says_it : said ≡ reading (before (is_mark 10) text) = reads ∙ ap reading (lines_is ∙ ap (before (is_mark 10)) fronts) in
    let now = subst (λ (r : Option (List ℕ)). Builds labels source old here r) some sofar in
    let nones : cause_of labels here (reading (before (is_mark 10) text)) ≡ None = ap (cause_of labels here) (sym says_it) ∙ sym cause ∙ none in
    let puts_it = subst (λ (s : Reading). Puts labels here.place s old new) says_it puts in
    let lens : open_len new.open ≤ open_len old.open + size_of (reading (before (is_mark 10) text)) = subst (λ (s : Reading). open_len new.open ≤ open_len old.open + size_of s) says_it len in
    let entries : new.entry ≡ entry_or labels old.entry (reading (before (is_mark 10) text)) = entry ∙ ap (entry_or labels old.entry) says_it in
    let afters : after ≡ next here (reading (before (is_mark 10) text)) = after_is ∙ ap (next here) says_it in
    let bounds = subst (λ (h : Here). unwrap_or h.place 0 ≤ unwrap_or here.place 0 + 2 ^ 32) afters bound in
    subst (λ (r : Option (List ℕ)). Builds labels source new after r) (sym (next_is ∙ ap (behind (is_mark 10)) behinds))
    (subst (λ (h : Here). Builds labels source new h (behind (is_mark 10) text)) (sym afters)
    (build_next labels source text old new here now nones puts_it lens entries bounds))

pub build_refused : (labels : Definitions) (source text front line_text : List ℕ) (said : Reading) (rest : Option (List ℕ))
    (a : Assembly) (here : Here) (found : Option AsmCause) (cause : AsmCause)
    → rest ≡ Some text → front ≡ text → line_text ≡ before (is_mark 10) front → said ≡ reading line_text
    → Builds labels source a here rest
    → found ≡ cause_of labels here said → found ≡ Some cause
    → first_refusal labels start (lines source) ≡ Some (At here.line cause)
build_refused labels source text front line_text said rest a here found cause some fronts lines_is reads sofar is_cause is_some =
    let says_it : said ≡ reading (before (is_mark 10) text) = reads ∙ ap reading (lines_is ∙ ap (before (is_mark 10)) fronts) in
    let now = subst (λ (r : Option (List ℕ)). Builds labels source a here r) some sofar in
    sym now.refusals ∙ ap (first_refusal labels here) (left_step text)
    ∙ refusal_found labels here (before (is_mark 10) text) (left (behind (is_mark 10) text)) cause
    (ap (cause_of labels here) (sym says_it) ∙ sym is_cause ∙ is_some)

nothing_refused : (labels : Definitions) (here : Here) → first_refusal labels here [] ≡ None
unfolding first_refusal
nothing_refused labels here = refl

no_bytes : (labels : Definitions) (place : Option ℕ) → bytes_until labels place [] ≡ []
unfolding bytes_until
no_bytes labels place = refl

no_segments : (labels : Definitions) → segments_of labels [] ≡ []
unfolding segments_of
no_segments labels = refl

no_entry : (labels : Definitions) (entry : Option ℕ) → entry_of labels entry [] ≡ entry
unfolding entry_of
no_entry labels entry = refl

abbrev made : Option ℕ → List SegmentView → ImageView
made entry segments = record { entry = start_of entry segments; segments = segments }

same_program : (e f : Option ℕ) (s t : List SegmentView) → e ≡ f → s ≡ t → made e s ≡ made f t
same_program e f s t es ss = ap (λ o. made o s) es ∙ ap (made f) ss

pub build_end : (labels : Definitions) (source : List ℕ) (a : Assembly) (here : Here) (rest : Option (List ℕ)) (program : ImageView)
    → Builds labels source a here rest → rest ≡ None
    → program ≡ record { entry = start_of a.entry (with_more a [] []); segments = with_more a [] [] }
    → IsAssembledBy labels source program
build_end labels source a here rest program sofar none is =
    let now = subst (λ (r : Option (List ℕ)). Builds labels source a here r) none sofar in
    let entry : a.entry ≡ entry_of labels None (lines source) = sym (no_entry labels a.entry) ∙ now.entry in
    let bytes = ap (λ bs. with_more a bs []) (sym (no_bytes labels here.place)) in
    let segments = bytes ∙ ap (λ ss. with_more a (bytes_until labels here.place []) ss) (sym (no_segments labels)) ∙ now.segments in
    record {
      accepted = sym now.refusals ∙ nothing_refused labels here;
      is = is ∙ same_program a.entry _ _ _ entry segments;
    }
