-- A slot is empty in the code exactly where no line of the part is in it.
use Rattle.std.proofs.Common.{◌≡◌, ◌≢◌, ℕ, ◌==◌, Bool, true, false, cond, Option, None, Some, refl, ap, ◌∙◌}
use Rattle.remote_cache.specs.declared.slot.Slot.{Slot as Request}
use Rattle.remote_cache.specs.View.{SlotsView, slot_at, slot_of, is_of, IsOnePerLine}
use Rattle.remote_cache.proofs.LawsOffered.{lines_have_one_slot}
use Rattle.prefetch_unit.proofs.LawsOffered.{empty_has_none, none_is_empty}
use Rattle.dash_model.specs.Config.{Config}
use Rattle.dash_model.specs.Cell.{Owns, Reads}
use Rattle.dash_model.specs.Part.{Part}
use Rattle.dash_model.specs.Words.{numbered, IsEmptySlot}
use Rattle.unit_rows.specs.Shown.{PartsView, hart_at, phase_by, slot_by, slot_in, Shows}
use Rattle.unit_rows.proofs.Same.{test_same, test_differ}

numbered_own : (w : Config) (c n m : ℕ) (s : Request) (own : Bool) → numbered n (cond own (Owns m (hart_at w c s.hart) (phase_by s.phase)) (Reads m (hart_at w c s.hart) (phase_by s.phase))) ≡ (m == n)
numbered_own w c n m s true = refl
numbered_own w c n m s false = refl

not_numbered : (w : Config) (c n m : ℕ) (o : Option Request) → m ≢ n → numbered n (slot_by w c m o) ≡ false
not_numbered w c n m None differ = refl
not_numbered w c n m (Some s) differ = numbered_own w c n m s s.own ∙ test_differ m n differ

other_numbered : (w : Config) (c n : ℕ) (v : SlotsView) (o : Option ℕ) → o ≢ Some n → numbered n (slot_in w c v o) ≡ false
other_numbered w c n v None differ = refl
other_numbered w c n v (Some m) differ = not_numbered w c n m (slot_at v m) (λ e. differ (ap (λ x. Some x) e))

pub empty_shown : (w : Config) (c n : ℕ) (v : PartsView) (p : Part) → Shows w c v p → slot_at v.slots n ≡ None → IsEmptySlot n p
empty_shown w c n v p s empty l = ap (numbered n) (s.slots l) ∙ other_numbered w c n v.slots (slot_of v.slots l) (empty_has_none v.slots n l empty)

there_by : (w : Config) (c n l : ℕ) (o : Option Request) → is_of l o ≡ true → numbered n (slot_by w c n o) ≡ true
there_by w c n l None is = absurd (cc)
there_by w c n l (Some s) is = numbered_own w c n n s s.own ∙ test_same n

pub empty_back : (w : Config) (c n : ℕ) (v : PartsView) (p : Part) → Shows w c v p → IsOnePerLine v.slots.slots → IsEmptySlot n p → slot_at v.slots n ≡ None
empty_back w c n v p s one empty = none_is_empty v.slots n one (λ l at.
    let has : is_of l (slot_at v.slots n) ≡ true = lines_have_one_slot.has_line v.slots l n at in
    let there : numbered n (p.cells l).slot ≡ true = ap (numbered n) (s.slots l ∙ ap (slot_in w c v.slots) at) ∙ there_by w c n l (slot_at v.slots n) has in
    let not_there = empty l in
    absurd (cc))
