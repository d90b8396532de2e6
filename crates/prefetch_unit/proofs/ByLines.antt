-- The slots that are empty, by the lines that have slots: a slot is empty exactly where it is that of no line.
use Rattle.std.proofs.Common.{◌≡◌, ◌≢◌, ℕ, ◌<◌, ◌≤◌, ◌==◌, true, false, Option, None, Some, refl, ap, ◌∙◌, arith}
use Rattle.std.proofs.lemmas.Bool.Decides.{nat_tests}
use Rattle.remote_cache.specs.declared.slot.Slot.{Slot}
use Rattle.remote_cache.specs.View.{SlotsView, count, first_prefetch, slot_at, slot_of, is_of, IsOnePerLine}
use Rattle.remote_cache.proofs.LawsOffered.{lines_have_one_slot}
use Rattle.prefetch_unit.specs.Hints.{IsLeastEmpty}

-- an empty slot has no line
pub empty_has_none : (v : SlotsView) (n line : ℕ) → slot_at v n ≡ None → slot_of v line ≢ Some n
empty_has_none v n line empty at =
    let has = lines_have_one_slot.has_line v line n at in
    let none : is_of line (slot_at v n) ≡ false = ap (is_of line) empty in
    absurd (cc)

none_by : (v : SlotsView) (n : ℕ) (o : Option Slot) → slot_at v n ≡ o → IsOnePerLine v.slots → ((line : ℕ) → slot_of v line ≢ Some n) → o ≡ None
none_by v n None is one none = refl
none_by v n (Some s) is one none =
    let same : (s.line.0 == s.line.0) ≡ true = grind (arith, nat_tests) in
    absurd (none s.line.0 (lines_have_one_slot.found v s.line.0 n one (ap (is_of s.line.0) is ∙ same)))

-- a slot that has no line is empty
pub none_is_empty : (v : SlotsView) (n : ℕ) → IsOnePerLine v.slots → ((line : ℕ) → slot_of v line ≢ Some n) → slot_at v n ≡ None
none_is_empty v n one none = none_by v n (slot_at v n) refl one none

-- the least empty slot for prefetches, by lines
pub record IsLeastWithoutLine (v : SlotsView) (n : ℕ) : Type 0 where
  pub from : first_prefetch v ≤ n
  pub below : n < count v
  pub empty : (line : ℕ) → slot_of v line ≢ Some n
  pub least : (m : ℕ) → first_prefetch v ≤ m → m < n → ¬ ((line : ℕ) → slot_of v line ≢ Some m)

pub least_by_lines : (v : SlotsView) (n : ℕ) → IsOnePerLine v.slots → IsLeastEmpty v n → IsLeastWithoutLine v n
least_by_lines v n one l = record {
  from = l.from;
  below = l.below;
  empty = λ line. empty_has_none v n line l.empty;
  least = λ m high low none. l.least m high low (none_is_empty v m one none);
}

pub least_from_lines : (v : SlotsView) (n : ℕ) → IsOnePerLine v.slots → IsLeastWithoutLine v n → IsLeastEmpty v n
least_from_lines v n one l = record {
  from = l.from;
  below = l.below;
  empty = none_is_empty v n one l.empty;
  least = λ m high low empty. l.least m high low (λ line. empty_has_none v m line empty);
}
