-- What a message makes of the slot of its line, and of no other.
use Rattle.std.proofs.Common.{◌≡◌, ◌≢◌, ℕ, ◌<◌, ◌==◌, Bool, true, false, Option, None, Some, refl, sym, ap, ◌∙◌, subst, inl, inr, arith}
use Rattle.std.proofs.Math.ListN.{length-set}
use Rattle.std.proofs.lemmas.Bool.Decides.{nat_tests}
use Rattle.dash_base.specs.Places.{line_count}
use Rattle.dash_base.specs.declared.id.LineId.{LineId}
use Rattle.remote_cache.specs.declared.slot.Slot.{Slot as Request}
use Rattle.remote_cache.specs.declared.change.Change.{Change}
use Rattle.remote_cache.specs.declared.change.Change.TheVariants.{Stays, Becomes, Closes}
use Rattle.remote_cache.specs.View.{SlotsView, count, slot_at, slot_of, with_slot, is_of, is_prefetch, IsOnePerLine}
use Rattle.remote_cache.specs.Steps.{changed_in, change_in, after_row}
use Rattle.remote_cache.proofs.LawsOffered.{lines_have_one_slot, set_slots_stand}
use Rattle.dash_model.specs.Config.{Config}
use Rattle.dash_model.specs.Cell.{Slot, NoSlot}
use Rattle.unit_rows.specs.Shown.{slot_by, slot_in, slot_on}
use Rattle.unit_rows.proofs.Same.{same_or_not}
use Rattle.unit_rows.proofs.SlotsOn.{slot_kept, slot_closed, slot_elsewhere}

-- what a change makes of a slot, on its line
abbrev pub slot_changed : Config → ℕ → ℕ → Request → Change → Slot
slot_changed w c n s Stays = slot_by w c n (Some s)
slot_changed w c n s (Becomes t) = slot_by w c n (Some t)
slot_changed w c n s Closes = NoSlot

-- it keeps the request's hart and line
abbrev pub SameRequest : Request → Change → Type 0
SameRequest s Stays = Unit {0}
SameRequest s Closes = Unit {0}
SameRequest s (Becomes t) = (t.hart ≡ s.hart) × (t.line ≡ s.line)

-- the slots are as many, of harts and lines in range
pub record SlotsFit (w : Config) (old new : SlotsView) : Type 0 where
  pub harts : new.harts ≡ old.harts
  pub counts : count new ≡ count old
  pub in_range : (n : ℕ) (s : Request) → slot_at new n ≡ Some s → (s.hart < w.top.harts) × (s.line.0 < line_count w.top)

abbrev pub InRange : Config → SlotsView → Type 0
InRange w v = (n : ℕ) (s : Request) → slot_at v n ≡ Some s → (s.hart < w.top.harts) × (s.line.0 < line_count w.top)

pub slots_fit : (w : Config) (v : SlotsView) → InRange w v → SlotsFit w v v
slots_fit w v r = record { harts = refl; counts = refl; in_range = r }

-- the slots with one changed
abbrev pub changed_view : SlotsView → ℕ → Change → SlotsView
changed_view v n change = record v { slots = changed_in v.slots n change }

some_same : (s t : Request) → Some s ≡ Some t → s ≡ t
some_same s t e = cc

module _ (w : Config) (c : ℕ) (v : SlotsView) (l n : ℕ) (s : Request) (one : IsOnePerLine v.slots) (found : slot_of v l ≡ Some n) (at : slot_at v n ≡ Some s) where
  has_it : is_of l (slot_at v n) ≡ true
  has_it = lines_have_one_slot.has_line v l n found

  low : n < count v
  low = lines_have_one_slot.in_range v l n found

  line_is : (s.line.0 == l) ≡ true
  line_is = sym (ap (is_of l) at) ∙ has_it

  pub slot_here : (change : Change) → SameRequest s change → slot_on w c (changed_view v n change) l ≡ slot_changed w c n s change
  slot_here Stays k = ap (slot_in w c v) found ∙ ap (slot_by w c n) at
  slot_here (Becomes t) k = slot_kept w c v n l (Some t) low one has_it (ap (λ (x : LineId). x.0 == l) k.1 ∙ line_is)
  slot_here Closes k = slot_closed w c v n l low one has_it

  other_line : (q : ℕ) → q ≢ l → (s.line.0 == q) ≡ false
  other_line q apart = let e = line_is in grind (arith, nat_tests)

  pub slot_there : (change : Change) → SameRequest s change → (q : ℕ) → q ≢ l → slot_on w c (changed_view v n change) q ≡ slot_on w c v q
  slot_there Stays k q apart = refl
  slot_there (Becomes t) k q apart = slot_elsewhere w c v n q (Some t) (ap (is_of q) at ∙ other_line q apart) (ap (λ (x : LineId). x.0 == q) k.1 ∙ other_line q apart)
  slot_there Closes k q apart = slot_elsewhere w c v n q None (ap (is_of q) at ∙ other_line q apart) refl

  set_in_range : (t : Option Request) → InRange w v → ((r : Request) → t ≡ Some r → (r.hart < w.top.harts) × (r.line.0 < line_count w.top)) → InRange w (with_slot v n t)
  set_in_range t range new m r e = elim (same_or_not m n) [
    | inl i ↦ new r (sym (set_slots_stand.here v n t low) ∙ ap (slot_at (with_slot v n t)) (sym i) ∙ e)
    | inr o ↦ range m r (sym (set_slots_stand.others v n m t o) ∙ e)
  ]

  same_range : (t : Request) → SameRequest s (Becomes t) → InRange w v → (r : Request) → Some t ≡ Some r → (r.hart < w.top.harts) × (r.line.0 < line_count w.top)
  same_range t k range r e =
      let was = range n s at in
      let is = some_same t r e in
      (subst (λ x. x < w.top.harts) (sym k.0 ∙ ap (λ (x : Request). x.hart) is) was.0, subst (λ (x : LineId). x.0 < line_count w.top) (sym k.1 ∙ ap (λ (x : Request). x.line) is) was.1)

  pub slots_fit_after : (change : Change) → SameRequest s change → InRange w v → SlotsFit w v (changed_view v n change)
  slots_fit_after Stays k range = slots_fit w v range
  slots_fit_after (Becomes t) k range = record { harts = refl; counts = length-set v.slots n (Some t); in_range = set_in_range (Some t) range (same_range t k range) }
  slots_fit_after Closes k range = record { harts = refl; counts = length-set v.slots n None; in_range = set_in_range None range (λ r e. absurd (cc)) }

-- the slot of a line, if one has it
pub data OnLine (v : SlotsView) (l : ℕ) : Type 0 where
  Nowhere : slot_of v l ≡ None → OnLine v l
  Somewhere : (n : ℕ) (s : Request) → slot_of v l ≡ Some n → slot_at v n ≡ Some s → OnLine v l

on_slot : (v : SlotsView) (l n : ℕ) (o : Option Request) → slot_of v l ≡ Some n → slot_at v n ≡ o → OnLine v l
on_slot v l n None e f = absurd (let t : is_of l (slot_at v n) ≡ true = lines_have_one_slot.has_line v l n e in let u : false ≡ true = sym (ap (is_of l) f) ∙ t in cc)
on_slot v l n (Some s) e f = Somewhere n s e f

on_number : (v : SlotsView) (l : ℕ) (o : Option ℕ) → slot_of v l ≡ o → OnLine v l
on_number v l None e = Nowhere e
on_number v l (Some n) e = on_slot v l n (slot_at v n) e refl

pub on_line : (v : SlotsView) (l : ℕ) → OnLine v l
on_line v l = on_number v l (slot_of v l) refl

-- a row that meets the slot of a line
abbrev pub after_met : SlotsView → (Bool → Request → Change) → ℕ → SlotsView
after_met v row l = after_row v row (slot_of v l)

pub met_is : (v : SlotsView) (row : Bool → Request → Change) (l n : ℕ) (s : Request) → slot_of v l ≡ Some n → slot_at v n ≡ Some s → after_met v row l ≡ changed_view v n (row (is_prefetch v n) s)
met_is v row l n s found at = ap (after_row v row) found ∙ ap (λ o. changed_view v n (change_in (row (is_prefetch v n)) o)) at

pub not_met : (v : SlotsView) (row : Bool → Request → Change) (l : ℕ) → slot_of v l ≡ None → after_met v row l ≡ v
not_met v row l none = ap (after_row v row) none

-- what the machine makes of the line's slot
pub record IsMet (w : Config) (c : ℕ) (v z : SlotsView) (l : ℕ) (f : Slot → Slot) : Type 0 where
  pub here : f (slot_on w c v l) ≡ slot_on w c z l
  pub there : (q : ℕ) → q ≢ l → slot_on w c z q ≡ slot_on w c v q
  pub fit : SlotsFit w v z

met_by_case : (w : Config) (c : ℕ) (v : SlotsView) (row : Bool → Request → Change) (l : ℕ) (f : Slot → Slot) → IsOnePerLine v.slots → InRange w v → f NoSlot ≡ NoSlot → ((n : ℕ) (s : Request) → SameRequest s (row (is_prefetch v n) s)) → ((n : ℕ) (s : Request) → f (slot_by w c n (Some s)) ≡ slot_changed w c n s (row (is_prefetch v n) s)) → OnLine v l → IsMet w c v (after_met v row l) l f
met_by_case w c v row l f one range none keeps agrees (Nowhere e) =
    subst (λ z. IsMet w c v z l f) (sym (not_met v row l e))
    (record { here = ap (λ o. f (slot_in w c v o)) e ∙ none ∙ sym (ap (slot_in w c v) e); there = λ q apart. refl; fit = slots_fit w v range })
met_by_case w c v row l f one range none keeps agrees (Somewhere n s e at) =
    subst (λ z. IsMet w c v z l f) (sym (met_is v row l n s e at))
    (record {
      here = ap f (ap (slot_in w c v) e ∙ ap (slot_by w c n) at) ∙ agrees n s ∙ sym (slot_here w c v l n s one e at (row (is_prefetch v n) s) (keeps n s));
      there = slot_there w c v l n s one e at (row (is_prefetch v n) s) (keeps n s);
      fit = slots_fit_after w c v l n s one e at (row (is_prefetch v n) s) (keeps n s) range;
    })

pub is_met : (w : Config) (c : ℕ) (v : SlotsView) (row : Bool → Request → Change) (l : ℕ) (f : Slot → Slot) → IsOnePerLine v.slots → InRange w v → f NoSlot ≡ NoSlot → ((n : ℕ) (s : Request) → SameRequest s (row (is_prefetch v n) s)) → ((n : ℕ) (s : Request) → f (slot_by w c n (Some s)) ≡ slot_changed w c n s (row (is_prefetch v n) s)) → IsMet w c v (after_met v row l) l f
is_met w c v row l f one range none keeps agrees = met_by_case w c v row l f one range none keeps agrees (on_line v l)
