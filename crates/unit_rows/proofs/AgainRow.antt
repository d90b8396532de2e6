-- Again: where the code's slot was refused it does the event's row, and only there the event is enabled.
use Rattle.std.proofs.Common.{◌≡◌, ◌≢◌, ℕ, ◌<◌, Bool, true, false, cond, Option, None, Some, [], ◌∷◌, refl, sym, ap, ◌∙◌, subst}
use Rattle.dash_base.specs.declared.id.LineId.{LineId}
use Rattle.dash_base.specs.Places.{line_count}
use Rattle.dash_msg.specs.declared.parcel.Sent.{Sent}
use Rattle.dash_event.specs.declared.event.Kind.{Kind}
use Rattle.dash_event.specs.declared.event.Kind.TheVariants as kind
use Rattle.remote_cache.specs.declared.slot.Phase.{Phase as Waits}
use Rattle.remote_cache.specs.declared.slot.Phase.TheVariants as waits
use Rattle.remote_cache.specs.declared.slot.Slot.{Slot as Request}
use Rattle.remote_cache.specs.Steps.{asked_again, is_refused_phase, is_refused as is_refused_slot}
use Rattle.remote_cache.specs.View.{SlotsView, slot_at, slot_of, count as slot_count, with_slot, is_of, IsOnePerLine}
use Rattle.dash_model.specs.Config.{Config, line_id, home_of}
use Rattle.dash_model.specs.Net.{to}
use Rattle.dash_model.specs.Cell.{Asked, Refused, Slot, Reads, Owns, Cell, Home}
use Rattle.dash_model.specs.Part.{Part}
use Rattle.dash_model.specs.LineEffect.{LineEffect}
use Rattle.dash_model.specs.HartRows.{HartEffect, on_line}
use Rattle.dash_model.specs.LineGuards.{IsRefused}
use Rattle.dash_model.specs.Guard.{Guard}
use Rattle.dash_model.specs.Row.{row}
use Rattle.dash_model.specs.Acts.{Again as Asks, act_row, again_row}
use Rattle.unit_rows.specs.declared.choice.Choice.TheVariants.{Again}
use Rattle.unit_rows.specs.Shown.{PartsView, hart_at, phase_by, slot_by, slot_in, Shows, AreSized}
use Rattle.unit_rows.specs.Choices.{IsOf}
use Rattle.unit_rows.specs.Rows.{Happens, DoesChoice, Cannot}
use Rattle.unit_rows.specs.SlotFits.{AgainFits, request_for}
use Rattle.unit_rows.proofs.Same.{test_same, test_differ}
use Rattle.unit_rows.proofs.Lines.{shows_line}
use Rattle.unit_rows.proofs.SlotsOn.{slot_is, slot_kept, slot_elsewhere}
use Rattle.unit_rows.proofs.BusTurns.{with_line}
use Rattle.unit_rows.proofs.SlotTurns.{slot_turns, sized_slots}
use Rattle.unit_rows.proofs.NoInstruction.{no_instruction}

-- the slot on the line, and the row of it
abbrev pub waiting : Config → ℕ → ℕ → Request → Slot
waiting w c n s = slot_by w c n (Some s)

refused_slot : (w : Config) (c n : ℕ) (s : Request) → s.phase ≡ waits.Refused → waiting w c n s ≡ cond s.own (Owns n (hart_at w c s.hart) Refused) (Reads n (hart_at w c s.hart) Refused)
refused_slot w c n s e = ap (λ t. cond s.own (Owns n (hart_at w c s.hart) (phase_by t)) (Reads n (hart_at w c s.hart) (phase_by t))) e

again_is : (l : LineId) (h n t : ℕ) (own : Bool) (a : Cell) (b : Home) → again_row l h (cond own (Owns n t Refused) (Reads n t Refused)) a b ≡ record { cell = record a { slot = cond own (Owns n t Asked) (Reads n t Asked) }; home = b; sent = to h (request_for l own) ∷ [] }
again_is l h n t true a b = refl
again_is l h n t false a b = refl

guarded : (n t : ℕ) (own : Bool) → IsRefused n (cond own (Owns n t Refused) (Reads n t Refused))
guarded n t true = refl
guarded n t false = refl

-- the line of a slot
pub on_line_of : (v : SlotsView) (n : ℕ) (s : Request) → slot_at v n ≡ Some s → is_of s.line.0 (slot_at v n) ≡ true
on_line_of v n s e = ap (is_of s.line.0) e ∙ test_same s.line.0

pub off_line_of : (v : SlotsView) (n q : ℕ) (s : Request) → slot_at v n ≡ Some s → q ≢ s.line.0 → is_of q (slot_at v n) ≡ false
off_line_of v n q s e apart = ap (is_of q) e ∙ test_differ s.line.0 q (λ i. apart (sym i))

again_shown : (w : Config) (c n : ℕ) (v : PartsView) (s : Request) (p : Part) → n < slot_count v.slots → IsOnePerLine v.slots.slots → AgainFits v n s → Shows w c v p
    → Happens w c (kind.Again n s.line) (no_instruction w) (with_line v v.locals v.bus (with_slot v.slots n (asked_again (slot_at v.slots n))) v.acks) (to (home_of w s.line.0) (request_for s.line s.own) ∷ []) p
unfolding Guard row
again_shown w c n v s p low one f shows =
    let l = s.line.0 in
    let t = hart_at w c s.hart in
    let slot : (p.cells l).slot ≡ cond s.own (Owns n t Refused) (Reads n t Refused) = shows.slots l ∙ slot_is w c v.slots l n one (on_line_of v.slots n s f.at) ∙ ap (slot_by w c n) f.at ∙ refused_slot w c n s f.refused in
    let d : LineEffect = record { cell = record (p.cells l) { slot = cond s.own (Owns n t Asked) (Reads n t Asked) }; home = p.homes l; sent = to (home_of w l) (request_for s.line s.own) ∷ [] } in
    let row_is : act_row (line_id l) (home_of w l) Asks (p.cells l) (p.homes l) ≡ d = ap (λ x. again_row (line_id l) (home_of w l) x (p.cells l) (p.homes l)) slot ∙ again_is (line_id l) (home_of w l) n t s.own (p.cells l) (p.homes l) in
    let again : asked_again (slot_at v.slots n) ≡ Some (record s { phase = waits.Asked }) = ap asked_again f.at in
    let z = with_line v v.locals v.bus (with_slot v.slots n (asked_again (slot_at v.slots n))) v.acks in
    record {
      guard = subst (IsRefused n) (sym slot) (guarded n t s.own);
      shows = subst (λ (x : LineEffect). Shows w c z (on_line w l x p).part) (sym row_is)
          (shows_line w c v z p l d shows
          (slot_turns w c v p l d (with_slot v.slots n (asked_again (slot_at v.slots n))) v.acks shows refl
          (sym (slot_kept w c v.slots n l (asked_again (slot_at v.slots n)) low one (on_line_of v.slots n s f.at) (ap (is_of l) again ∙ test_same l) ∙ ap (slot_by w c n) again))
          (λ q apart. slot_elsewhere w c v.slots n q (asked_again (slot_at v.slots n)) (off_line_of v.slots n q s f.at apart) (ap (is_of q) again ∙ test_differ l q (λ i. apart (sym i))))
          (shows.acks l) (λ q apart. refl) refl));
      sent_is = ap (λ (x : LineEffect). x.sent) row_is;
    }

pub asks_again : (w : Config) (c n : ℕ) (v : PartsView) (s : Request) (slots : SlotsView) (sent : Sent) → n < slot_count v.slots → IsOnePerLine v.slots.slots → AgainFits v n s → slots ≡ with_slot v.slots n (asked_again (slot_at v.slots n)) → sent ≡ to (home_of w s.line.0) (request_for s.line s.own)
    → DoesChoice w c (Again n) (kind.Again n s.line) v (with_line v v.locals v.bus slots v.acks) (sent ∷ [])
asks_again w c n v s slots sent low one f slots_is sent_is =
    rw (slots_is, sent_is)
    (let base : DoesChoice w c (Again n) (kind.Again n s.line) v (with_line v v.locals v.bus (with_slot v.slots n (asked_again (slot_at v.slots n))) v.acks) (to (home_of w s.line.0) (request_for s.line s.own) ∷ []) =
    record { is_of = refl; does = record { done = no_instruction w; happens = λ p shows. again_shown w c n v s p low one f shows } } in base)

pub sized_again : (w : Config) (c n : ℕ) (v : PartsView) (s : Request) (slots : SlotsView) → n < slot_count v.slots → AreSized w c v → AgainFits v n s → slots ≡ with_slot v.slots n (asked_again (slot_at v.slots n)) → AreSized w c (with_line v v.locals v.bus slots v.acks)
sized_again w c n v s slots low sized f slots_is =
    subst (λ y. AreSized w c (with_line v v.locals v.bus y v.acks)) (sym slots_is)
    (sized_slots w c v n (asked_again (slot_at v.slots n)) v.acks low sized (λ r e. let same : Some (record s { phase = waits.Asked }) ≡ Some r = sym (ap asked_again f.at) ∙ e in in_range r same) refl sized.acks_in_range)
  where
    in_range : (r : Request) → Some (record s { phase = waits.Asked }) ≡ Some r → (r.hart < w.top.harts) × (r.line.0 < line_count w.top)
    in_range r same = let is : record s { phase = waits.Asked } ≡ r = cc in subst (λ (y : Request). (y.hart < w.top.harts) × (y.line.0 < line_count w.top)) is (sized.slots_in_range n s f.at)

-- an enabled Again has a refused slot of this number on a line, so the slot of this number is refused
slot_number : (w : Config) (c m n : ℕ) (o : Option Request) → IsRefused n (slot_by w c m o) → (m ≡ n) × (is_refused_slot o ≡ true)
slot_number w c m n None r = absurd r
slot_number w c m n (Some s) r = numbered s.own s.phase r
  where
    numbered : (own : Bool) (phase : Waits) → IsRefused n (cond own (Owns m (hart_at w c s.hart) (phase_by phase)) (Reads m (hart_at w c s.hart) (phase_by phase))) → (m ≡ n) × (is_refused_phase phase ≡ true)
    numbered true waits.Asked r = absurd r
    numbered true waits.Poisoned r = absurd r
    numbered true waits.Refused r = (r, refl)
    numbered true (waits.Came d) r = absurd r
    numbered false waits.Asked r = absurd r
    numbered false waits.Poisoned r = absurd r
    numbered false waits.Refused r = (r, refl)
    numbered false (waits.Came d) r = absurd r

refused_in : (w : Config) (c n : ℕ) (v : SlotsView) (o : Option ℕ) → IsRefused n (slot_in w c v o) → is_refused_slot (slot_at v n) ≡ true
refused_in w c n v None r = absurd r
refused_in w c n v (Some m) r = let t = slot_number w c m n (slot_at v m) r in subst (λ y. is_refused_slot (slot_at v y) ≡ true) t.0 t.1

again_guard : (w : Config) (c n : ℕ) (v : PartsView) (p : Part) (e : Kind) (d : HartEffect) → Shows w c v p → IsOf w c (Again n) e → Guard w c e d p → is_refused_slot (slot_at v.slots n) ≡ true
unfolding Guard
again_guard w c n v p (kind.Again slot line) d shows is guard = refused_in w c n v.slots (slot_of v.slots line.0) (subst (λ y. IsRefused n y) (shows.slots line.0) (subst (λ y. IsRefused y (p.cells line.0).slot) is guard))
again_guard w c n v p e d shows is guard = absurd is

pub not_refused : (w : Config) (c n : ℕ) (v : PartsView) → is_refused_slot (slot_at v.slots n) ≡ false → Cannot w c v (Again n)
not_refused w c n v none p shows able = let f : true ≡ false = sym (again_guard w c n v p able.event able.done shows able.is_of able.guard) ∙ none in absurd (cc)

pub refused_phase : (t : Waits) → is_refused_phase t ≡ true → t ≡ waits.Refused
refused_phase waits.Asked e = absurd (cc)
refused_phase waits.Poisoned e = absurd (cc)
refused_phase waits.Refused e = refl
refused_phase (waits.Came d) e = absurd (cc)
