-- What a row makes of a slot keeps its line.
use Rattle.std.proofs.Common.{◌≡◌, ◌<◌, ◌≤◌, ◌==◌, ℕ, Bool, true, false, List, length, get_or, set, Option, Some, None, refl, sym, ap, ◌∙◌, arith, length-set}
use Rattle.std.specs.List.{position, position_or_len, refill}
use Rattle.std.proofs.lemmas.List.{get_or_past}
use Rattle.std.proofs.lemmas.List.Sums.{fails_before_first}
use Rattle.std.proofs.lemmas.Bool.Decides.{nat_tests}
use Rattle.dash_base.specs.declared.line.Line.{Line}
use Rattle.dash_base.specs.declared.id.LineId.{LineId}
use Rattle.dash_msg.specs.declared.msg.Msg.{Msg}
use Rattle.dash_msg.specs.declared.msg.Msg.TheVariants.{Data, DataEx, Nak}
use Rattle.remote_cache.specs.declared.slot.Phase.{Phase}
use Rattle.remote_cache.specs.declared.slot.Phase.TheVariants.{Asked, Poisoned, Refused, Came}
use Rattle.remote_cache.specs.declared.slot.Slot.{Slot}
use Rattle.remote_cache.specs.declared.change.Change.{Change}
use Rattle.remote_cache.specs.declared.change.Change.TheVariants.{Stays, Becomes, Closes}
use Rattle.remote_cache.specs.Rows.{refused, on_data, on_data_ex, on_nak, on_reply, on_inval}
use Rattle.remote_cache.specs.Steps.{changed_in}
use Rattle.arrayvec.proofs.ArrayVecLemmas.{items-with_items}
use Rattle.remote_cache.specs.View.{is_of, IsOnePerLine}
use Rattle.remote_cache.specs.Kept.{AreKept}
use Rattle.remote_cache.proofs.OnePerLine.{one_per_line-set}

-- a slot that stays or closes, or is of the same line
abbrev pub KeepsLine : Slot → Change → Type 0
KeepsLine s Stays = Unit {0}
KeepsLine s Closes = Unit {0}
KeepsLine s (Becomes t) = t.line ≡ s.line

refused_keeps : (prefetch : Bool) (s : Slot) → KeepsLine s (refused prefetch s)
refused_keeps true s = tt
refused_keeps false s = refl

on_data_keeps : (prefetch : Bool) (copy : Line) (s : Slot) (own : Bool) (phase : Phase) → KeepsLine s (on_data prefetch copy s own phase)
on_data_keeps prefetch copy s false Asked = refl
on_data_keeps prefetch copy s false Poisoned = refused_keeps prefetch s
on_data_keeps prefetch copy s false Refused = tt
on_data_keeps prefetch copy s false (Came d) = tt
on_data_keeps prefetch copy s true phase = tt

on_data_ex_keeps : (copy : Line) (s : Slot) (own : Bool) (phase : Phase) → KeepsLine s (on_data_ex copy s own phase)
on_data_ex_keeps copy s true Asked = refl
on_data_ex_keeps copy s true Poisoned = tt
on_data_ex_keeps copy s true Refused = tt
on_data_ex_keeps copy s true (Came d) = tt
on_data_ex_keeps copy s false phase = tt

on_nak_keeps : (prefetch : Bool) (s : Slot) (phase : Phase) → KeepsLine s (on_nak prefetch s phase)
on_nak_keeps prefetch s Asked = refused_keeps prefetch s
on_nak_keeps prefetch s Poisoned = refused_keeps prefetch s
on_nak_keeps prefetch s Refused = tt
on_nak_keeps prefetch s (Came d) = tt

pub on_reply_keeps : (prefetch : Bool) (msg : Msg) (s : Slot) → KeepsLine s (on_reply prefetch msg s)
on_reply_keeps prefetch (Data line copy) s = on_data_keeps prefetch copy s s.own s.phase
on_reply_keeps prefetch (DataEx line copy number) s = on_data_ex_keeps copy s s.own s.phase
on_reply_keeps prefetch (Nak line) s = on_nak_keeps prefetch s s.phase
on_reply_keeps prefetch _ s = tt

pub on_inval_keeps : (prefetch : Bool) (s : Slot) (own : Bool) (phase : Phase) → KeepsLine s (on_inval prefetch s own phase)
on_inval_keeps prefetch s false Asked = refl
on_inval_keeps prefetch s false Poisoned = tt
on_inval_keeps prefetch s false Refused = tt
on_inval_keeps prefetch s false (Came d) = refused_keeps prefetch s
on_inval_keeps prefetch s true phase = tt

same_line : (line : ℕ) (s t : Slot) → t.line ≡ s.line → is_of line (Some t) ≡ is_of line (Some s)
same_line line s t e = ap (λ (l : LineId). l.0 == line) e

-- so at most one slot has a line afterwards
pub one_per_line-changed : (slots : List (Option Slot)) (n : ℕ) (s : Slot) (change : Change) → n < length slots → IsOnePerLine slots → get_or slots n None ≡ Some s → KeepsLine s change
    → IsOnePerLine (changed_in slots n change)
one_per_line-changed slots n s Stays low one at keeps = one
one_per_line-changed slots n s Closes low one at keeps =
    one_per_line-set slots n None low one (λ line i p q. grind (arith, p))
one_per_line-changed slots n s (Becomes t) low one at keeps =
    one_per_line-set slots n (Some t) low one
    (λ line i p q. one.one line i n q (ap (is_of line) at ∙ sym (same_line line s t keeps) ∙ p))

past : (slots : List (Option Slot)) (i : ℕ) → length slots ≤ i → get_or slots i None ≡ None
past slots i h = get_or_past slots i None h

-- a slot whose line no slot has
pub one_per_line-issued : (slots : List (Option Slot)) (n : ℕ) (s : Slot) → n < length slots → IsOnePerLine slots → position (is_of s.line.0) slots ≡ None
    → IsOnePerLine (set slots n (Some s))
one_per_line-issued slots n s low one free =
    one_per_line-set slots n (Some s) low one
    (λ line i p q. grind (arith, nat_tests, none_of i))
  where
    none : length slots ≤ position_or_len (is_of s.line.0) slots
    none = grind (arith, nat_tests, free)

    none_of : (i : ℕ) → is_of s.line.0 (get_or slots i None) ≡ false
    none_of i = grind (arith, nat_tests, none, fails_before_first (is_of s.line.0) slots i None, past slots i)

written : (slots after : List (Option Slot)) → length after ≡ length slots → refill (length slots) slots after ≡ after
written slots after same = items-with_items (record { items = slots }) after same

-- what is true of the slots stays so where a request is issued
pub kept-issued : (harts : ℕ) (slots now : List (Option Slot)) (n : ℕ) (s : Slot) → now ≡ slots → n < length slots → AreKept harts slots → position (is_of s.line.0) slots ≡ None
    → AreKept harts (refill (length slots) slots (set now n (Some s)))
kept-issued harts slots now n s same low kept free =
    rw (same, written slots (set slots n (Some s)) (length-set slots n (Some s)))
    (record { harts_in_range = kept.harts_in_range; one_per_line = one_per_line-issued slots n s low kept.one_per_line free })

length_changed : (slots : List (Option Slot)) (n : ℕ) (change : Change) → length (changed_in slots n change) ≡ length slots
length_changed slots n Stays = refl
length_changed slots n (Becomes t) = length-set slots n (Some t)
length_changed slots n Closes = length-set slots n None

-- and where a row changes a slot
pub kept-changed : (harts : ℕ) (slots now after : List (Option Slot)) (n : ℕ) (s : Slot) (change : Change) → now ≡ slots → after ≡ changed_in now n change → n < length slots → AreKept harts slots
    → get_or slots n None ≡ Some s → KeepsLine s change → AreKept harts (refill (length slots) slots after)
kept-changed harts slots now after n s change same is low kept at keeps =
    rw (is, same, written slots (changed_in slots n change) (length_changed slots n change))
    (record { harts_in_range = kept.harts_in_range; one_per_line = one_per_line-changed slots n s change low kept.one_per_line at keeps })
