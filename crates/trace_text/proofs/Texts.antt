-- A text is read line by line: where its first line ends, and how its events grow in number.
use Rattle.std.proofs.Common.{◌≡◌, ℕ, zero, suc, ◌+◌, ◌≤◌, ◌<◌, Bool, true, false, not, cond, nat_eq, length, take, drop, slice_index, List, [], ◌∷◌, ◌++◌, refl, ap, sym, subst, ◌∙◌, append_assoc, eqb-true, arith}
use Rattle.std.specs.List.{flat_map, position_or_len, AllByRecursion}
use Rattle.std.specs.Str.{bytes_eq}
use Rattle.std.proofs.lemmas.Grind.{flat_map-append}
use Rattle.std.proofs.lemmas.List.{take-append-drop, append-nil, length-append}
use Rattle.std.proofs.lemmas.Slice.Eq.{bytes_eq-Decides}
use Rattle.std.proofs.Math.Seq.{take-append_seam}
use Rattle.dash_event.specs.declared.event.Event.{Event}
use Rattle.trace_text.specs.Fits.{FitsEvent}
use Rattle.trace_text.specs.LogText.{event_line, first_line}
use Rattle.trace_text.specs.Reading.{is_whole, is_newline, IsLineOf, IsFirstLine, AreLinesOf, HasNoHead}
use Rattle.trace_text.specs.Spelling.{newline}
use Rattle.trace_text.proofs.Cuts.{take_more, drop_more}

-- whole lines are whole behind any byte
whole_behind : (x : ℕ) (xs : List ℕ) → is_whole (x ∷ xs) ≡ true → is_whole xs ≡ true
whole_behind x [] whole = refl
whole_behind x (y ∷ xs) whole = whole

-- where one byte alone is whole it is a newline
more_behind : (x : ℕ) (xs : List ℕ) → is_newline x ≡ false → is_whole (x ∷ xs) ≡ true → 0 < length xs
more_behind x [] other whole = absurd (cc)
more_behind x (y ∷ xs) other whole = omega arith

one_more : (x : ℕ) (body : List ℕ) → is_newline x ≡ false → ((i : ℕ) → i < length body → is_newline (slice_index body i) ≡ false)
    → (i : ℕ) → i < length (x ∷ body) → is_newline (slice_index (x ∷ body) i) ≡ false
one_more x body other each zero below = other
one_more x body other each (suc i) below = each i (omega arith)

-- another byte in front of the first line
longer_line : (x : ℕ) (xs line rest : List ℕ) → is_newline x ≡ false → IsFirstLine xs line rest → IsFirstLine (x ∷ xs) (x ∷ line) rest
longer_line x xs line rest other first = record {
  body = x ∷ first.body;
  is = ap (λ ys. x ∷ ys) first.is;
  ended = ap (λ ys. x ∷ ys) first.ended;
  one_line = one_more x first.body other first.one_line;
  whole = first.whole;
}

-- a newline is a line
lone : (x : ℕ) (xs : List ℕ) → is_newline x ≡ true → is_whole (x ∷ xs) ≡ true → IsFirstLine (x ∷ xs) (x ∷ []) xs
lone x xs ends whole = record {
  body = [];
  is = refl;
  ended = ap (λ c. c ∷ []) (eqb-true x 10 ends);
  one_line = λ i below. absurd (omega arith);
  whole = whole_behind x xs whole;
}

line_step : (b : Bool) (x n : ℕ) (xs : List ℕ) → is_newline x ≡ b → is_whole (x ∷ xs) ≡ true
    → (0 < length xs → IsFirstLine xs (take (1 + n) xs) (drop (1 + n) xs))
    → IsFirstLine (x ∷ xs) (take (1 + cond (not b) (1 + n) 0) (x ∷ xs)) (drop (1 + cond (not b) (1 + n) 0) (x ∷ xs))
line_step true x n xs is whole other = lone x xs is whole
line_step false x n xs is whole other =
    let behind = longer_line x xs _ _ is (other (more_behind x xs is whole)) in
    let line = sym (take_more (1 + n) x xs) in
    let rest = sym (drop_more (1 + n) x xs) in
    subst (λ (r : List ℕ). IsFirstLine (x ∷ xs) (take (1 + (1 + n)) (x ∷ xs)) r) rest
    (subst (λ (l : List ℕ). IsFirstLine (x ∷ xs) l (drop (1 + n) xs)) line behind)

-- up to the first newline stands the first line
pub line_at : (xs : List ℕ) → 0 < length xs → is_whole xs ≡ true
    → IsFirstLine xs (take (1 + position_or_len is_newline xs) xs) (drop (1 + position_or_len is_newline xs) xs)
line_at [] some whole = absurd (omega arith)
line_at (x ∷ xs) some whole =
    line_step (is_newline x) x (position_or_len is_newline xs) xs refl whole (λ more. line_at xs more (whole_behind x xs whole))

within_step : (b : Bool) (x n : ℕ) (xs : List ℕ) → is_newline x ≡ b → is_whole (x ∷ xs) ≡ true → (0 < length xs → n < length xs)
    → cond (not b) (1 + n) 0 < length (x ∷ xs)
within_step true x n xs is whole other = omega arith
within_step false x n xs is whole other = let below = other (more_behind x xs is whole) in omega arith

pub newline_within : (xs : List ℕ) → 0 < length xs → is_whole xs ≡ true → position_or_len is_newline xs < length xs
newline_within [] some whole = absurd (omega arith)
newline_within (x ∷ xs) some whole =
    within_step (is_newline x) x (position_or_len is_newline xs) xs refl whole (λ more. newline_within xs more (whole_behind x xs whole))

-- what is read so far: the lines of the events, and whole lines, the next of which has this number
pub record Reads (lines : List ℕ) (events : List Event) (rest : List ℕ) (number : ℕ) : Type 0 where
  pub lead : AreLinesOf lines events rest
  pub whole : is_whole rest ≡ true
  pub counted : number ≡ length events + 2
  pub room : number + length rest ≤ length lines + 2

all_more : (events : List Event) (e : Event) → AllByRecursion FitsEvent events → FitsEvent e → AllByRecursion FitsEvent (events ++ e ∷ [])
all_more [] e all one = (one, tt)
all_more (f ∷ events) e all one = (all.0, all_more events e all.1 one)

assoc : (a b c : List ℕ) → (a ++ b) ++ c ≡ a ++ (b ++ c)
assoc a b c = simp append_assoc

lines_more : (events : List Event) (e : Event) (line rest : List ℕ) → event_line e ≡ line
    → flat_map event_line events ++ (line ++ rest) ≡ flat_map event_line (events ++ e ∷ []) ++ rest
lines_more events e line rest is =
    ap (λ l. flat_map event_line events ++ (l ++ rest)) (sym is)
    ∙ sym (assoc (flat_map event_line events) (event_line e) rest)
    ∙ ap (λ l. (flat_map event_line events ++ l) ++ rest) (sym (append-nil (event_line e)))
    ∙ ap (λ l. l ++ rest) (sym (flat_map-append event_line events (e ∷ [])))

shorter : (lines line rest : List ℕ) → IsFirstLine lines line rest → length rest + 1 ≤ length lines
shorter lines line rest first =
    let whole : length lines ≡ length line + length rest = ap length first.is ∙ length-append line rest in
    let body : length line ≡ length first.body + 1 = ap length first.ended ∙ length-append first.body newline in
    omega arith

-- an event more
pub reads_more : (lines : List ℕ) (events : List Event) (rest : List ℕ) (number : ℕ) (e : Event) (line others : List ℕ)
    → Reads lines events rest number → IsFirstLine rest line others → IsLineOf line e → Reads lines (events ++ e ∷ []) others (number + 1)
reads_more lines events rest number e line others reads first of = record {
  lead = record {
    is = reads.lead.is ∙ ap (λ r. flat_map event_line events ++ r) first.is ∙ lines_more events e line others of.spelled;
    fit = all_more events e reads.lead.fit of.fits;
  };
  whole = first.whole;
  counted = let more = length-append events (e ∷ []) in omega (arith, reads.counted);
  room = let less = shorter rest line others first in omega (arith, reads.room);
}

-- a text that doesn't begin with the bytes of the first line
pub no_head : (text : List ℕ) → bytes_eq (take (length first_line) text) first_line ≡ false → HasNoHead text
no_head text other lines is =
    let head : take (length first_line) text ≡ first_line = ap (take (length first_line)) is ∙ take-append_seam first_line lines in
    let same : bytes_eq (take (length first_line) text) first_line ≡ true = (bytes_eq-Decides (take (length first_line) text) first_line).1 head in
    cc

pub headed : (text : List ℕ) → bytes_eq (take (length first_line) text) first_line ≡ true → text ≡ first_line ++ drop (length first_line) text
headed text same =
    sym (take-append-drop (length first_line) text)
    ∙ ap (λ head. head ++ drop (length first_line) text) ((bytes_eq-Decides (take (length first_line) text) first_line).0 same)

-- the last byte, as the code finds it
pub whole_last : (front : List ℕ) (last : ℕ) → is_whole (front ++ last ∷ []) ≡ nat_eq last 10
whole_last [] last = refl
whole_last (x ∷ []) last = refl
whole_last (x ∷ y ∷ front) last = whole_last (y ∷ front) last
