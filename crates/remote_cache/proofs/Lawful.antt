-- Which slot has a line, and that a message changes one slot: the laws of slots, proved.
use Rattle.std.proofs.Common.{◌≡◌, ◌≢◌, ◌<◌, ◌≤◌, ℕ, Bool, true, false, cond, List, length, get_or, set, Option, Some, None, refl, sym, ap, ◌∙◌, arith, length-set}
use Rattle.std.specs.Prelude.{nat_lt}
use Rattle.std.specs.List.{position_or_len}
use Rattle.std.proofs.lemmas.Bool.Decides.{nat_tests}
use Rattle.std.proofs.lemmas.List.{get_or_past, get_or-set_same, get_or-set_other}
use Rattle.std.proofs.lemmas.List.Folds.{position_or_len-set}
use Rattle.std.proofs.lemmas.List.Quantifiers.{position-Some}
use Rattle.std.proofs.lemmas.List.Sums.{fails_before_first, passes_at_first}
use Rattle.remote_cache.specs.declared.slot.Slot.{Slot}
use Rattle.remote_cache.specs.declared.change.Change.{Change}
use Rattle.remote_cache.specs.declared.change.Change.TheVariants.{Stays, Becomes, Closes}
use Rattle.remote_cache.specs.Rows.{on_reply, on_inval, reply_line}
use Rattle.remote_cache.specs.View.{SlotsView, slot_at, slot_of, with_slot, is_of, is_prefetch, IsOnePerLine}
use Rattle.remote_cache.specs.Steps.{changed_in, change_in, after_row, slot_of_reply}
use Rattle.remote_cache.specs.Laws.{LinesHaveOneSlot, SetSlotsStand, MessagesChangeOneSlot}

within : (line : ℕ) (slots : List (Option Slot)) (n : ℕ) → is_of line (get_or slots n None) ≡ true → n < length slots
within line slots n is = grind (arith, nat_tests, is, (λ (past : length slots ≤ n). ap (is_of line) (get_or_past slots n None past)))

first_low : (line : ℕ) (slots : List (Option Slot)) (n : ℕ) → is_of line (get_or slots n None) ≡ true → position_or_len (is_of line) slots < length slots
first_low line slots n is = grind (arith, nat_tests, within line slots n is, fails_before_first (is_of line) slots n None)

found : (v : SlotsView) (line n : ℕ) → IsOnePerLine v.slots → is_of line (slot_at v n) ≡ true → slot_of v line ≡ Some n
found v line n one is =
    let first = position_or_len (is_of line) v.slots in
    let low : first < length v.slots = first_low line v.slots n is in
    let same : first ≡ n = one.one line first n (passes_at_first (is_of line) v.slots None low) is in
    let test : nat_lt first (length v.slots) ≡ true = grind (arith, nat_tests, low) in
    ap (λ b. cond b (Some first) None) test ∙ ap Some same

none : (v : SlotsView) (line n : ℕ) → slot_of v line ≡ None → is_of line (slot_at v n) ≡ false
none v line n free =
    let most : length v.slots ≤ position_or_len (is_of line) v.slots = grind (arith, nat_tests, free) in
    grind (arith, nat_tests, most, fails_before_first (is_of line) v.slots n None, (λ (past : length v.slots ≤ n). ap (is_of line) (get_or_past v.slots n None past)))

pub lines_have_one_slot : LinesHaveOneSlot
lines_have_one_slot = record {
  found = found;
  in_range = λ v line n is. (position-Some (is_of line) v.slots n None is).0;
  has_line = λ v line n is. (position-Some (is_of line) v.slots n None is).1;
  none = none;
}

lines : (v : SlotsView) (n line : ℕ) (slot : Option Slot) → is_of line slot ≡ is_of line (slot_at v n) → slot_of (with_slot v n slot) line ≡ slot_of v line
lines v n line slot same =
    let first = position_or_len-set (is_of line) v.slots n slot None same in
    ap (λ k. cond (nat_lt k (length (set v.slots n slot))) (Some k) None) first
    ∙ ap (λ m. cond (nat_lt (position_or_len (is_of line) v.slots) m) (Some (position_or_len (is_of line) v.slots)) None) (length-set v.slots n slot)

pub set_slots_stand : SetSlotsStand
set_slots_stand = record {
  here = λ v n slot low. get_or-set_same v.slots n slot None low;
  others = λ v n m slot apart. get_or-set_other v.slots n m slot None apart;
  lines = lines;
}

changed : (slots : List (Option Slot)) (n m : ℕ) (change : Change) → m ≢ n → get_or (changed_in slots n change) m None ≡ get_or slots m None
changed slots n m Stays apart = refl
changed slots n m (Becomes t) apart = get_or-set_other slots n m (Some t) None apart
changed slots n m Closes apart = get_or-set_other slots n m None None apart

kept : (v : SlotsView) (row : Bool → Slot → Change) (o : Option ℕ) (m : ℕ) → o ≢ Some m → slot_at (after_row v row o) m ≡ slot_at v m
kept v row None m apart = refl
kept v row (Some n) m apart =
    changed v.slots n m (change_in (row (is_prefetch v n)) (slot_at v n)) (λ same. apart (ap Some (sym same)))

pub messages_change_one_slot : MessagesChangeOneSlot
messages_change_one_slot = record {
  reply = λ v msg m apart. kept v (λ prefetch s. on_reply prefetch msg s) (slot_of_reply v (reply_line msg)) m apart;
  inval = λ v line m apart. kept v (λ prefetch s. on_inval prefetch s s.own s.phase) (slot_of v line) m apart;
}
