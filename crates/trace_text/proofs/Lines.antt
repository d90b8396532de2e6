-- What a line is read as.
use Rattle.std.proofs.Common.{◌≡◌, ℕ, Bool, true, false, not, List, sym, ap, ◌∙◌}
use Rattle.std.specs.Str.{bytes_eq}
use Rattle.std.proofs.lemmas.Slice.Eq.{bytes_eq-Decides}
use Rattle.dash_base.specs.declared.id.ClusterId.{ClusterId}
use Rattle.dash_event.specs.declared.event.Event.{Event}
use Rattle.dash_event.specs.declared.event.Kind.{Kind}
use Rattle.trace_text.specs.EventWords.{event_of, kind_of}
use Rattle.trace_text.specs.Fits.{FitsEvent}
use Rattle.trace_text.specs.LogText.{event_line}
use Rattle.trace_text.specs.Reading.{IsLineOf, IsNoLine}
use Rattle.trace_text.specs.Values.{value_of, cluster_of}
use Rattle.trace_text.specs.Words.{first, behind, words}
use Rattle.trace_text.proofs.Again.{happened, line_tells, three}

-- what a line's words stand for, made field by field
pub made : (line : List ℕ) (all later last : List (List ℕ)) (stamp : ℕ) (cluster : ClusterId) (kind : Kind)
    → all ≡ words line → stamp ≡ value_of 10 (first all) → later ≡ behind all → cluster ≡ cluster_of (first later)
    → last ≡ behind later → kind ≡ kind_of last → happened stamp cluster kind ≡ event_of (words line)
unfolding happened event_of
made line all later last stamp cluster kind all_is stamp_is later_is cluster_is last_is kind_is =
    let later_of = later_is ∙ ap behind all_is in
    three happened (stamp_is ∙ ap (λ ws. value_of 10 (first ws)) all_is) (cluster_is ∙ ap (λ ws. cluster_of (first ws)) later_of)
    (kind_is ∙ ap kind_of (last_is ∙ ap behind later_of))

-- the line is that of an event that was written
same_line : (line written : List ℕ) (e : Event) → FitsEvent e → written ≡ event_line e → bytes_eq written line ≡ true → IsLineOf line e
same_line line written e fits writes same = record {
  fits = fits;
  spelled = sym writes ∙ (bytes_eq-Decides written line).0 same;
}

-- where it isn't, it is no event's
other_line : (line written : List ℕ) (e : Event) → e ≡ event_of (words line) → written ≡ event_line e → bytes_eq written line ≡ false
    → IsNoLine line
other_line line written e is writes other found fits spelled =
    let told : event_of (words line) ≡ found = line_tells found line fits spelled in
    let written_is : written ≡ line = writes ∙ ap event_line (is ∙ told) ∙ spelled in
    let same : bytes_eq written line ≡ true = (bytes_eq-Decides written line).1 written_is in
    cc

is_false : (b : Bool) → not b ≡ true → b ≡ false
is_false true e = absurd (cc)
is_false false e = cc

is_true : (b : Bool) → not b ≡ false → b ≡ true
is_true true e = cc
is_true false e = absurd (cc)

-- by the test of the code, that they differ
pub read_same : (line written : List ℕ) (e : Event) (differ : Bool) → FitsEvent e → written ≡ event_line e
    → differ ≡ not (bytes_eq written line) → differ ≡ false → IsLineOf line e
read_same line written e differ fits writes test same = same_line line written e fits writes (is_true _ (sym test ∙ same))

pub read_other : (line written : List ℕ) (e : Event) (differ : Bool) → e ≡ event_of (words line) → written ≡ event_line e
    → differ ≡ not (bytes_eq written line) → differ ≡ true → IsNoLine line
read_other line written e differ is writes test other = other_line line written e is writes (is_false _ (sym test ∙ other))
