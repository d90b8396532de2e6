-- At most one slot has a line, also once a slot has changed.
use Rattle.std.proofs.Common.{◌≡◌, ◌<◌, ℕ, true, List, length, get_or, set, Option, None, arith}
use Rattle.std.proofs.lemmas.List.{get_or-set_same, get_or-set_other}
use Rattle.std.proofs.lemmas.Bool.Decides.{nat_tests}
use Rattle.remote_cache.specs.declared.slot.Slot.{Slot}
use Rattle.remote_cache.specs.View.{is_of, IsOnePerLine}

-- a slot that is set has no line that another one has
pub one_per_line-set : (slots : List (Option Slot)) (n : ℕ) (s : Option Slot) → n < length slots → IsOnePerLine slots
    → ((line i : ℕ) → is_of line s ≡ true → is_of line (get_or slots i None) ≡ true → i ≡ n) → IsOnePerLine (set slots n s)
one_per_line-set slots n s low one alone = record {
  one = λ line i j p q.
      grind (arith, nat_tests, one.one line i j, alone line i, alone line j, get_or-set_same slots n s None low, get_or-set_other slots n i s None, get_or-set_other slots n j s None);
}
