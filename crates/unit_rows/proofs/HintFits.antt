-- A hint opens a slot of the code's exactly where it opens that slot of the part.
use Rattle.std.proofs.Common.{◌≡◌, ℕ, ◌*◌, ◌<◌, ◌≤◌, ◌&&◌, Bool, true, false, cond, not, Option, None, Some, is_some, refl, sym, ap, ◌∙◌, subst}
use Rattle.dash_base.specs.declared.need.HintKind.{HintKind}
use Rattle.dash_base.specs.declared.need.HintKind.TheVariants.{Fetch, Shared, Exclusive}
use Rattle.ack_counter.specs.View.{has_room}
use Rattle.remote_cache.specs.declared.slot.Slot.{Slot as Request}
use Rattle.remote_cache.specs.View.{SlotsView, slot_at, slot_of, is_of, IsOnePerLine}
use Rattle.remote_cache.proofs.LawsOffered.{lines_have_one_slot}
use Rattle.snoop_bus.specs.Holding.{Holding, copy_in}
use Rattle.snoop_bus.specs.View.{holding_at, copy_of, owner_at}
use Rattle.prefetch_unit.specs.Hints.{kind_opens, IsLeastEmpty}
use Rattle.dash_model.specs.Config.{Config, line_at}
use Rattle.dash_model.specs.Cell.{NoSlot, Owns, Reads}
use Rattle.dash_model.specs.LineEffect.{has_copy, has_owner}
use Rattle.dash_model.specs.Part.{Part}
use Rattle.dash_model.specs.HartGuards.{SlotIs}
use Rattle.dash_model.specs.Wants as model
use Rattle.dash_model.specs.Wants.{KindOpens, Opens}
use Rattle.unit_rows.specs.Shown.{PartsView, hart_at, phase_by, slot_by, slot_in, Shows, AreSized}
use Rattle.unit_rows.specs.Hints.{HintFits, OpensJust}
use Rattle.unit_rows.proofs.AcksRoom.{room_there, room_back}
use Rattle.unit_rows.proofs.Copies.{has-copy_by, has_owner-copy_by}
use Rattle.unit_rows.proofs.EmptySlots.{empty_shown, empty_back}

-- whether the cluster has a copy, and an owner
copy_some : (o : Option Holding) → is_some (copy_in o) ≡ is_some o
copy_some None = refl
copy_some (Some h) = refl

pub copy_there : (w : Config) (c l : ℕ) (v : PartsView) (p : Part) → Shows w c v p → has_copy (p.cells l).copy ≡ is_some (copy_of v.bus l)
copy_there w c l v p s = ap has_copy (s.copies l) ∙ has-copy_by w c (holding_at v.bus l) ∙ sym (copy_some (holding_at v.bus l))

pub owner_there : (w : Config) (c l : ℕ) (v : PartsView) (p : Part) → Shows w c v p → has_owner (p.cells l).copy ≡ is_some (owner_at v.bus l)
owner_there w c l v p s = ap has_owner (s.copies l) ∙ has_owner-copy_by w c (holding_at v.bus l)

flipped : (b : Bool) → not b ≡ true → b ≡ false
flipped true e = absurd (cc)
flipped false e = refl

both : (a b : Bool) → (a && b) ≡ true → (a ≡ true) × (b ≡ true)
both true true e = (refl, refl)
both true false e = absurd (cc)
both false b e = absurd (cc)

and_true : (a b : Bool) → a ≡ true → b ≡ true → (a && b) ≡ true
and_true true b e f = f
and_true false b e f = e

-- what the kind needs
kind_shown : (w : Config) (c l : ℕ) (kinds : HintKind) (v : PartsView) (p : Part) → Shows w c v p → AreSized w c v → kind_opens kinds (is_some (copy_of v.bus l)) (is_some (owner_at v.bus l)) v.acks ≡ true → KindOpens w kinds l p
kind_shown w c l Fetch v p s z e = absurd (cc)
kind_shown w c l Shared v p s z e = copy_there w c l v p s ∙ flipped (is_some (copy_of v.bus l)) e
kind_shown w c l Exclusive v p s z e =
    let two = both (not (is_some (owner_at v.bus l))) (has_room v.acks) e in
    (owner_there w c l v p s ∙ flipped (is_some (owner_at v.bus l)) two.0, room_there w c v p s z two.1)

kind_back : (w : Config) (c l : ℕ) (kinds : HintKind) (v : PartsView) (p : Part) → Shows w c v p → AreSized w c v → KindOpens w kinds l p → kind_opens kinds (is_some (copy_of v.bus l)) (is_some (owner_at v.bus l)) v.acks ≡ true
kind_back w c l Fetch v p s z e = absurd e
kind_back w c l Shared v p s z e = ap not (sym (copy_there w c l v p s) ∙ e)
kind_back w c l Exclusive v p s z e = and_true (not (is_some (owner_at v.bus l))) (has_room v.acks) (ap not (sym (owner_there w c l v p s) ∙ e.0)) (room_back w c v p s z e.1)

-- no slot has the line
not_none : (w : Config) (c n : ℕ) (s : Request) (own : Bool) → cond own (Owns n (hart_at w c s.hart) (phase_by s.phase)) (Reads n (hart_at w c s.hart) (phase_by s.phase)) ≡ NoSlot → ⊥
not_none w c n s true e = cc
not_none w c n s false e = cc

there_not : (w : Config) (c l n : ℕ) (o : Option Request) → is_of l o ≡ true → slot_by w c n o ≡ NoSlot → ⊥
there_not w c l n None is e = cc
there_not w c l n (Some s) is e = not_none w c n s s.own e

lone_by : (w : Config) (c l : ℕ) (v : SlotsView) (o : Option ℕ) → slot_of v l ≡ o → slot_in w c v o ≡ NoSlot → o ≡ None
lone_by w c l v None at e = refl
lone_by w c l v (Some n) at e = absurd (there_not w c l n (slot_at v n) (lines_have_one_slot.has_line v l n at) e)

pub lone_back : (w : Config) (c l : ℕ) (v : PartsView) (p : Part) → Shows w c v p → (p.cells l).slot ≡ NoSlot → slot_of v.slots l ≡ None
lone_back w c l v p s e = lone_by w c l v.slots (slot_of v.slots l) refl (sym (s.slots l) ∙ e)

pub lone_shown : (w : Config) (c l : ℕ) (v : PartsView) (p : Part) → Shows w c v p → slot_of v.slots l ≡ None → (p.cells l).slot ≡ NoSlot
lone_shown w c l v p s e = s.slots l ∙ ap (slot_in w c v.slots) e

-- the least empty slot
least_shown : (w : Config) (c n : ℕ) (v : PartsView) (p : Part) → Shows w c v p → AreSized w c v → IsOnePerLine v.slots.slots → IsLeastEmpty v.slots n → model.IsLeastEmpty w n p
least_shown w c n v p s z one least = record {
  from = subst (λ h. 2 * h ≤ n) z.slot_harts least.from;
  below = subst (λ m. n < m) z.slot_count least.below;
  empty = empty_shown w c n v p s least.empty;
  least = λ m high low empty. least.least m (subst (λ h. 2 * h ≤ m) (sym z.slot_harts) high) low (empty_back w c m v p s one empty);
}

least_back : (w : Config) (c n : ℕ) (v : PartsView) (p : Part) → Shows w c v p → AreSized w c v → IsOnePerLine v.slots.slots → model.IsLeastEmpty w n p → IsLeastEmpty v.slots n
least_back w c n v p s z one least = record {
  from = subst (λ h. 2 * h ≤ n) (sym z.slot_harts) least.from;
  below = subst (λ m. n < m) (sym z.slot_count) least.below;
  empty = empty_back w c n v p s one least.empty;
  least = λ m high low empty. absurd (least.least m (subst (λ h. 2 * h ≤ m) z.slot_harts high) low (empty_shown w c m v p s empty));
}

pub opens_shown : (w : Config) (c n address : ℕ) (kinds : HintKind) (v : PartsView) (p : Part) → Shows w c v p → AreSized w c v → IsOnePerLine v.slots.slots → HintFits w v kinds address n → Opens w kinds address n p
opens_shown w c n address kinds v p s z one f = record {
  inside = f.inside;
  lone = lone_shown w c (line_at w address) v p s f.opens.lone;
  slot = least_shown w c n v p s z one f.opens.slot;
  kinds = kind_shown w c (line_at w address) kinds v p s z f.opens.kinds;
}

pub opens_back : (w : Config) (c n address : ℕ) (kinds : HintKind) (v : PartsView) (p : Part) → Shows w c v p → AreSized w c v → IsOnePerLine v.slots.slots → Opens w kinds address n p → HintFits w v kinds address n
opens_back w c n address kinds v p s z one o = record {
  inside = o.inside;
  opens = record { kinds = kind_back w c (line_at w address) kinds v p s z o.kinds; lone = lone_back w c (line_at w address) v p s o.lone; slot = least_back w c n v p s z one o.slot };
}

pub slot_is_shown : (w : Config) (c address : ℕ) (kinds : HintKind) (o : Option ℕ) (v : PartsView) (p : Part) → Shows w c v p → AreSized w c v → IsOnePerLine v.slots.slots → OpensJust w v kinds address o → SlotIs w kinds address o p
slot_is_shown w c address kinds None v p s z one just = λ n o. just n (opens_back w c n address kinds v p s z one o)
slot_is_shown w c address kinds (Some n) v p s z one just = opens_shown w c n address kinds v p s z one just
