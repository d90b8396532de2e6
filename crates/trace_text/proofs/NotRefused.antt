-- The text of a log is refused for want of memory alone.
use Rattle.std.proofs.Common.{◌≡◌, ℕ, true, List, [], ◌∷◌, ◌++◌, refl, ap, sym, ◌∙◌, append_assoc}
use Rattle.std.specs.List.{flat_map, AllByRecursion}
use Rattle.dash_event.specs.declared.event.Event.{Event}
use Rattle.trace_text.specs.Fits.{FitsEvent}
use Rattle.trace_text.specs.LogText.{event_line}
use Rattle.trace_text.specs.Reading.{is_whole, IsNoLine, IsTextOf, IsCut, IsOddAt}
use Rattle.trace_text.specs.TextLaws.{TextsOfLogsAreRead}
use Rattle.trace_text.specs.declared.refusal.TextRefusal.TheVariants.{Head, Cut, At, OutOfMemory}
use Rattle.trace_text.proofs.OneLine.{ends_once, alone, shorter_once, same_lead, same_others, some_byte, body_once}
use Rattle.trace_text.proofs.Rows.{event_row}
use Rattle.trace_text.proofs.Unique.{same_behind_head}

-- a line in front of whole lines
line_whole : (line rest : List ℕ) → ends_once line ≡ true → is_whole rest ≡ true → is_whole (line ++ rest) ≡ true
line_whole [] rest once whole = whole
line_whole (c ∷ []) [] once whole = alone c once
line_whole (c ∷ []) (d ∷ ds) once whole = whole
line_whole (c ∷ d ∷ cs) rest once whole = line_whole (d ∷ cs) rest (shorter_once c d cs once) whole

lines_whole : (log : List Event) → AllByRecursion FitsEvent log → is_whole (flat_map event_line log) ≡ true
lines_whole [] fit = refl
lines_whole (e ∷ log) fit = line_whole (event_line e) (flat_map event_line log) (event_row e fit.0).once (lines_whole log fit.1)

assoc : (a b c : List ℕ) → (a ++ b) ++ c ≡ a ++ (b ++ c)
assoc a b c = simp append_assoc

-- among the lines of a log there is none that is no event's
none_odd : (log before : List Event) (line behind : List ℕ) → AllByRecursion FitsEvent log → AllByRecursion FitsEvent before
    → ends_once line ≡ true → IsNoLine line → flat_map event_line log ≡ flat_map event_line before ++ (line ++ behind) → ⊥
none_odd [] [] line behind fit also once odd same = some_byte line behind once same
none_odd (e ∷ log) [] line behind fit also once odd same =
    odd e fit.0 (same_lead (event_line e) line (flat_map event_line log) behind (event_row e fit.0).once once same)
none_odd [] (f ∷ before) line behind fit also once odd same =
    let all = same ∙ assoc (event_line f) (flat_map event_line before) (line ++ behind) in
    some_byte (event_line f) (flat_map event_line before ++ (line ++ behind)) (event_row f also.0).once all
none_odd (e ∷ log) (f ∷ before) line behind fit also once odd same =
    let all = same ∙ assoc (event_line f) (flat_map event_line before) (line ++ behind) in
    none_odd log before line behind fit.1 also.1 once odd
    (same_others (event_line e) (event_line f) (flat_map event_line log) (flat_map event_line before ++ (line ++ behind)) (event_row e fit.0).once (event_row f also.0).once all)

not_cut : (text : List ℕ) (log : List Event) → IsTextOf text log → IsCut text → ⊥
not_cut text log of refused =
    let lines : flat_map event_line log ≡ refused.lines = same_behind_head _ _ (sym of.is ∙ refused.headed) in
    let whole : is_whole refused.lines ≡ true = ap is_whole (sym lines) ∙ lines_whole log of.fit in
    let cut = refused.cut in
    cc

not_odd : (text : List ℕ) (log : List Event) (number : ℕ) → IsTextOf text log → IsOddAt text number → ⊥
not_odd text log number of refused =
    let odd = refused.odd in
    let lines : flat_map event_line log ≡ refused.lines = same_behind_head _ _ (sym of.is ∙ refused.headed) in
    let once : ends_once odd.line ≡ true = ap ends_once odd.first.ended ∙ body_once odd.first.body odd.first.one_line in
    none_odd log odd.before odd.line odd.behind of.fit odd.lead.fit once odd.odd
    (lines ∙ odd.lead.is ∙ ap (λ rest. flat_map event_line odd.before ++ rest) odd.first.is)

pub texts_of_logs_are_read : TextsOfLogsAreRead
texts_of_logs_are_read text log Head of refused = absurd (refused (flat_map event_line log) of.is)
texts_of_logs_are_read text log Cut of refused = absurd (not_cut text log of refused)
texts_of_logs_are_read text log (At number) of refused = absurd (not_odd text log number of refused)
texts_of_logs_are_read text log OutOfMemory of refused = refl
