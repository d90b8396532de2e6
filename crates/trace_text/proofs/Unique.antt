-- A text is that of one log at most, and is then refused for want of memory alone.
use Rattle.std.proofs.Common.{◌≡◌, ℕ, List, [], ◌∷◌, ◌++◌, length, drop, refl, ap, sym, ◌∙◌}
use Rattle.std.specs.List.{flat_map, AllByRecursion}
use Rattle.dash_event.specs.declared.event.Event.{Event}
use Rattle.trace_text.specs.Fits.{FitsEvent}
use Rattle.trace_text.specs.LogText.{event_line, first_line}
use Rattle.trace_text.specs.TextLaws.{TextsTellLogs, ReadingGivesBack}
use Rattle.trace_text.proofs.Again.{line_tells}
use Rattle.trace_text.proofs.OneLine.{same_lead, same_others, some_byte}
use Rattle.trace_text.proofs.Rows.{event_row}

-- two events of one line are one event
same_event : (e f : Event) → FitsEvent e → FitsEvent f → event_line e ≡ event_line f → e ≡ f
same_event e f fits also same = sym (line_tells e (event_line e) fits refl) ∙ line_tells f (event_line e) also (sym same)

put_in_front : {e f : Event} {l m : List Event} → e ≡ f → l ≡ m → e ∷ l ≡ f ∷ m
put_in_front same rest = cc

-- two lists of events of the same lines are one list
same_events : (l m : List Event) → AllByRecursion FitsEvent l → AllByRecursion FitsEvent m → flat_map event_line l ≡ flat_map event_line m → l ≡ m
same_events [] [] fit also same = refl
same_events [] (f ∷ m) fit also same = absurd (some_byte (event_line f) (flat_map event_line m) (event_row f also.0).once same)
same_events (e ∷ l) [] fit also same = absurd (some_byte (event_line e) (flat_map event_line l) (event_row e fit.0).once (sym same))
same_events (e ∷ l) (f ∷ m) fit also same =
    let once = (event_row e fit.0).once in
    let twice = (event_row f also.0).once in
    put_in_front
    (same_event e f fit.0 also.0 (same_lead (event_line e) (event_line f) (flat_map event_line l) (flat_map event_line m) once twice same))
    (same_events l m fit.1 also.1 (same_others (event_line e) (event_line f) (flat_map event_line l) (flat_map event_line m) once twice same))

behind_head : (lines : List ℕ) → drop (length first_line) (first_line ++ lines) ≡ lines
behind_head lines = refl

-- what stands behind one head
pub same_behind_head : (lines others : List ℕ) → first_line ++ lines ≡ first_line ++ others → lines ≡ others
same_behind_head lines others same = sym (behind_head lines) ∙ ap (drop (length first_line)) same ∙ behind_head others

pub texts_tell_logs : TextsTellLogs
texts_tell_logs l m fit also same = same_events l m fit also (same_behind_head (flat_map event_line l) (flat_map event_line m) same)

pub reading_gives_back : ReadingGivesBack
reading_gives_back text written read of also = texts_tell_logs read written also.fit of.fit (sym also.is ∙ of.is)
