-- How a log's text is read: which log it is of, or where it is no log's text.
use Rattle.std.specs.Prelude.{◌≡◌, ◌≢◌, ℕ, ◌+◌, ◌<◌, Bool, true, false, List, [], ◌∷◌, ◌++◌, flat_map, length, nat_eq, slice_index, ⊤}
use Rattle.std.specs.List.{AllByRecursion}
use Rattle.dash_event.specs.declared.event.Event.{Event}
use Rattle.trace_text.specs.Fits.{FitsEvent}
use Rattle.trace_text.specs.LogText.{event_line, first_line, log_text}
use Rattle.trace_text.specs.Spelling.{newline}
use Rattle.trace_text.specs.declared.refusal.TextRefusal.{TextRefusal}
use Rattle.trace_text.specs.declared.refusal.TextRefusal.TheVariants.{Head, Cut, At, OutOfMemory}

-- whether nothing stands behind the last newline
abbrev pub is_whole : List ℕ → Bool
is_whole [] = true
is_whole (c ∷ []) = nat_eq c 10
is_whole (c ∷ d ∷ cs) = is_whole (d ∷ cs)

-- the line of this event
pub record IsLineOf (line : List ℕ) (e : Event) : Type 0 where
  pub fits : FitsEvent e
  pub spelled : event_line e ≡ line

-- no event has this line
abbrev pub IsNoLine : List ℕ → Type 0
IsNoLine line = (e : Event) → FitsEvent e → event_line e ≢ line

-- the events have gained that of this line
pub record Gains (line : List ℕ) (old new : List Event) : Type 0 where
  pub event : Event
  pub of : IsLineOf line event
  pub is : new ≡ old ++ event ∷ []

-- they have, or no event has this line
abbrev pub IsAppended : List ℕ → List Event → List Event → Bool → Type 0
IsAppended line old new true = Gains line old new
IsAppended line old new false = IsNoLine line

-- a newline
abbrev pub is_newline : ℕ → Bool
is_newline c = nat_eq c 10

-- the first of these lines, and those behind it
pub record IsFirstLine (lines line rest : List ℕ) : Type 0 where
  pub body : List ℕ
  pub is : lines ≡ line ++ rest
  pub ended : line ≡ body ++ newline
  pub one_line : (i : ℕ) → i < length body → is_newline (slice_index body i) ≡ false
  pub whole : is_whole rest ≡ true

-- these lines are those of the events, and then the rest
pub record AreLinesOf (lines : List ℕ) (events : List Event) (rest : List ℕ) : Type 0 where
  pub is : lines ≡ flat_map event_line events ++ rest
  pub fit : AllByRecursion FitsEvent events

-- the first of these lines that is no event's is that of this number, where the first of all has number 2:
-- the head stands before it
pub record IsFirstOdd (lines : List ℕ) (number : ℕ) : Type 0 where
  pub before : List Event
  pub line : List ℕ
  pub behind : List ℕ
  pub rest : List ℕ
  pub lead : AreLinesOf lines before rest
  pub first : IsFirstLine rest line behind
  pub odd : IsNoLine line
  pub counted : number ≡ length before + 2

-- the text is that of this log, whose numbers are within the bounds of their types
pub record IsTextOf (text : List ℕ) (log : List Event) : Type 0 where
  pub is : text ≡ log_text log
  pub fit : AllByRecursion FitsEvent log

-- why lines behind a head are refused
abbrev pub AreRefusedFor : List ℕ → TextRefusal → Type 0
AreRefusedFor lines Head = ⊥
AreRefusedFor lines Cut = ⊥
AreRefusedFor lines (At number) = IsFirstOdd lines number
AreRefusedFor lines OutOfMemory = ⊤

-- the text doesn't begin with the first line
abbrev pub HasNoHead : List ℕ → Type 0
HasNoHead text = (lines : List ℕ) → text ≢ first_line ++ lines

-- it begins so, and its last byte is no newline
pub record IsCut (text : List ℕ) : Type 0 where
  pub lines : List ℕ
  pub headed : text ≡ first_line ++ lines
  pub cut : is_whole lines ≡ false

-- it begins so, ends with a newline, and this is its first line that is no event's
pub record IsOddAt (text : List ℕ) (number : ℕ) : Type 0 where
  pub lines : List ℕ
  pub headed : text ≡ first_line ++ lines
  pub whole : is_whole lines ≡ true
  pub odd : IsFirstOdd lines number

-- why a text is refused
abbrev pub IsRefusedFor : List ℕ → TextRefusal → Type 0
IsRefusedFor text Head = HasNoHead text
IsRefusedFor text Cut = IsCut text
IsRefusedFor text (At number) = IsOddAt text number
IsRefusedFor text OutOfMemory = ⊤
