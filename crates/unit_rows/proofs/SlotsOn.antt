-- A slot that changes, seen from the lines: the slot on its line, and that on each other line.
use Rattle.std.proofs.Common.{◌≡◌, ◌≢◌, ℕ, ◌<◌, ◌==◌, Bool, true, false, cond, Option, None, Some, refl, sym, ap, ◌∙◌, subst, arith}
use Rattle.std.proofs.lemmas.Bool.Decides.{nat_tests}
use Rattle.remote_cache.specs.declared.slot.Slot.{Slot as Request}
use Rattle.remote_cache.specs.View.{SlotsView, count, slot_at, slot_of, with_slot, is_of, IsOnePerLine}
use Rattle.remote_cache.proofs.LawsOffered.{lines_have_one_slot, set_slots_stand}
use Rattle.dash_model.specs.Config.{Config}
use Rattle.dash_model.specs.Cell.{NoSlot}
use Rattle.unit_rows.specs.Shown.{slot_by, slot_in, slot_on}
use Rattle.unit_rows.proofs.Same.{test_same}

-- which slot has a line, by what slots have
pub slot_is : (w : Config) (c : ℕ) (v : SlotsView) (l n : ℕ) → IsOnePerLine v.slots → is_of l (slot_at v n) ≡ true → slot_on w c v l ≡ slot_by w c n (slot_at v n)
slot_is w c v l n one has = ap (slot_in w c v) (lines_have_one_slot.found v l n one has)

no_slot_by : (v : SlotsView) (l : ℕ) (o : Option ℕ) → slot_of v l ≡ o → ((n : ℕ) → is_of l (slot_at v n) ≡ false) → o ≡ None
no_slot_by v l None e none = refl
no_slot_by v l (Some n) e none = absurd (let t : is_of l (slot_at v n) ≡ true = lines_have_one_slot.has_line v l n e in let f : is_of l (slot_at v n) ≡ false = none n in cc)

pub no_slot : (v : SlotsView) (l : ℕ) → ((n : ℕ) → is_of l (slot_at v n) ≡ false) → slot_of v l ≡ None
no_slot v l none = no_slot_by v l (slot_of v l) refl none

-- the slots with one changed have one slot a line, where no other one has the new line
set_at : (v : SlotsView) (n m line : ℕ) (s : Option Request) (t : Bool) → n < count v → (m == n) ≡ t → is_of line (slot_at (with_slot v n s) m) ≡ cond t (is_of line s) (is_of line (slot_at v m))
set_at v n m line s true low e = let same : m ≡ n = grind (arith, nat_tests) in ap (λ y. is_of line (slot_at (with_slot v n s) y)) same ∙ ap (is_of line) (set_slots_stand.here v n s low)
set_at v n m line s false low e = let apart : m ≢ n = λ same. (let t : (m == n) ≡ true = ap (λ y. y == n) same ∙ test_same n in absurd (cc)) in ap (is_of line) (set_slots_stand.others v n m s apart)

pub has_set : (v : SlotsView) (n m line : ℕ) (s : Option Request) → n < count v → is_of line (slot_at (with_slot v n s) m) ≡ cond (m == n) (is_of line s) (is_of line (slot_at v m))
has_set v n m line s low = set_at v n m line s (m == n) low refl

-- a line that the slot neither had nor has: its slot is as it was
same_by : (w : Config) (c : ℕ) (v : SlotsView) (n line : ℕ) (s : Option Request) (o : Option ℕ) → slot_of v line ≡ o → is_of line (slot_at v n) ≡ false → slot_in w c (with_slot v n s) o ≡ slot_in w c v o
same_by w c v n line s None e free = refl
same_by w c v n line s (Some m) e free =
    let has : is_of line (slot_at v m) ≡ true = lines_have_one_slot.has_line v line m e in
    ap (slot_by w c m) (set_slots_stand.others v n m s (λ same. absurd (let t : is_of line (slot_at v n) ≡ true = subst (λ y. is_of line (slot_at v y) ≡ true) same has in cc)))

pub slot_elsewhere : (w : Config) (c : ℕ) (v : SlotsView) (n line : ℕ) (s : Option Request) → is_of line (slot_at v n) ≡ false → is_of line s ≡ false → slot_on w c (with_slot v n s) line ≡ slot_on w c v line
slot_elsewhere w c v n line s free new_free =
    ap (slot_in w c (with_slot v n s)) (set_slots_stand.lines v n line s (new_free ∙ sym free)) ∙ same_by w c v n line s (slot_of v line) refl free

-- the slot closes: its line has none
closed_at : (v : SlotsView) (n m line : ℕ) (t : Bool) → n < count v → IsOnePerLine v.slots → is_of line (slot_at v n) ≡ true → (m == n) ≡ t → cond t false (is_of line (slot_at v m)) ≡ false
closed_at v n m line true low one has e = refl
closed_at v n m line false low one has e = other (is_of line (slot_at v m)) refl
  where
    other : (b : Bool) → is_of line (slot_at v m) ≡ b → b ≡ false
    other false i = refl
    other true i = absurd (let same : m ≡ n = one.one line m n i has in let t : (m == n) ≡ true = ap (λ y. y == n) same ∙ test_same n in cc)

pub slot_closed : (w : Config) (c : ℕ) (v : SlotsView) (n line : ℕ) → n < count v → IsOnePerLine v.slots → is_of line (slot_at v n) ≡ true → slot_on w c (with_slot v n None) line ≡ NoSlot
slot_closed w c v n line low one has =
    ap (slot_in w c (with_slot v n None)) (no_slot (with_slot v n None) line (λ m. has_set v n m line None low ∙ closed_at v n m line (m == n) low one has refl))

-- the slot keeps its line
pub slot_kept : (w : Config) (c : ℕ) (v : SlotsView) (n line : ℕ) (s : Option Request) → n < count v → IsOnePerLine v.slots → is_of line (slot_at v n) ≡ true → is_of line s ≡ true → slot_on w c (with_slot v n s) line ≡ slot_by w c n s
slot_kept w c v n line s low one had has =
    ap (slot_in w c (with_slot v n s)) (set_slots_stand.lines v n line s (has ∙ sym had) ∙ lines_have_one_slot.found v line n one had) ∙ ap (slot_by w c n) (set_slots_stand.here v n s low)

-- an empty slot gets a line that no slot has
opened_one : (v : SlotsView) (n line : ℕ) (s : Option Request) → n < count v → IsOnePerLine v.slots → slot_at v n ≡ None → slot_of v line ≡ None → ((other : ℕ) → is_of other s ≡ (line == other)) → IsOnePerLine (with_slot v n s).slots
opened_one v n line s low one empty free is = record { one = λ q i j a b. both q i j (i == n) (j == n) refl refl (sym (has_set v n i q s low) ∙ a) (sym (has_set v n j q s low) ∙ b) }
  where
    mine : (q m : ℕ) → is_of q s ≡ true → is_of q (slot_at v m) ≡ true → ⊥
    mine q m new old = let same : line ≡ q = (let t : (line == q) ≡ true = sym (is q) ∙ new in grind (arith, nat_tests)) in let f : is_of q (slot_at v m) ≡ false = subst (λ y. is_of y (slot_at v m) ≡ false) same (lines_have_one_slot.none v line m free) in absurd (cc)

    both : (q i j : ℕ) (s_i s_j : Bool) → (i == n) ≡ s_i → (j == n) ≡ s_j → cond s_i (is_of q s) (is_of q (slot_at v i)) ≡ true → cond s_j (is_of q s) (is_of q (slot_at v j)) ≡ true → i ≡ j
    both q i j true true ei ej a b = grind (arith, nat_tests)
    both q i j true false ei ej a b = absurd (mine q j a b)
    both q i j false true ei ej a b = absurd (mine q i b a)
    both q i j false false ei ej a b = one.one q i j a b

pub slot_opened : (w : Config) (c : ℕ) (v : SlotsView) (n line : ℕ) (s : Request) → n < count v → IsOnePerLine v.slots → slot_at v n ≡ None → slot_of v line ≡ None → s.line.0 ≡ line → slot_on w c (with_slot v n (Some s)) line ≡ slot_by w c n (Some s)
slot_opened w c v n line s low one empty free is =
    let has : is_of line (Some s) ≡ true = (let t : (s.line.0 == line) ≡ true = grind (arith, nat_tests) in t) in
    let one_now = opened_one v n line (Some s) low one empty free (λ other. ap (λ y. y == other) is) in
    slot_is w c (with_slot v n (Some s)) line n one_now (ap (is_of line) (set_slots_stand.here v n (Some s) low) ∙ has) ∙ ap (slot_by w c n) (set_slots_stand.here v n (Some s) low)
