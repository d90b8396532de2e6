-- Ask: where the code's slot may ask for a line, the parts do the event's row.
use Rattle.std.proofs.Common.{◌≡◌, ◌≢◌, ℕ, ◌<◌, Bool, true, false, cond, Some, [], ◌∷◌, refl, sym, ap, ◌∙◌, subst, inl, inr}
use Rattle.dash_base.specs.declared.id.HartId.{HartId}
use Rattle.dash_base.specs.declared.id.LineId.{LineId}
use Rattle.dash_msg.specs.declared.parcel.Sent.{Sent}
use Rattle.dash_event.specs.declared.event.Kind.TheVariants as kind
use Rattle.dash_base.specs.Places.{line_count}
use Rattle.ack_counter.specs.View.{Counted, TableView, entry_at}
use Rattle.remote_cache.specs.declared.slot.Slot.{Slot as Request}
use Rattle.remote_cache.specs.Steps.{issued}
use Rattle.remote_cache.specs.View.{SlotsView, count as slot_count, with_slot, is_of, IsOnePerLine}
use Rattle.dash_model.specs.Config.{Config, hart_id, line_id, home_of}
use Rattle.dash_model.specs.Net.{to}
use Rattle.dash_model.specs.Cell.{Asked, Reads, Owns, Acks, Counting, Cell, Home}
use Rattle.dash_model.specs.Part.{Part}
use Rattle.dash_model.specs.LineEffect.{LineEffect}
use Rattle.dash_model.specs.HartRows.{on_line, ask_act}
use Rattle.dash_model.specs.Guard.{Guard}
use Rattle.dash_model.specs.Row.{row}
use Rattle.dash_model.specs.Acts.{act_row}
use Rattle.unit_rows.specs.declared.choice.Choice.TheVariants.{Ask}
use Rattle.unit_rows.specs.Shown.{PartsView, hart_at, slot_in, acks_by, Shows, AreSized}
use Rattle.unit_rows.specs.Rows.{Happens, DoesChoice}
use Rattle.unit_rows.specs.SlotFits.{request_for}
use Rattle.unit_rows.specs.AskFits.{AskFits, RequestFits, asked_acks}
use Rattle.unit_rows.proofs.Same.{test_differ, same_or_not}
use Rattle.unit_rows.proofs.Lines.{shows_line}
use Rattle.unit_rows.proofs.SlotsOn.{slot_opened, slot_elsewhere}
use Rattle.unit_rows.proofs.AcksOn.{begun-acks, begun-elsewhere}
use Rattle.unit_rows.proofs.BusTurns.{with_line}
use Rattle.unit_rows.proofs.SlotTurns.{slot_turns, sized_slots}
use Rattle.unit_rows.proofs.EmptySlots.{empty_shown}
use Rattle.unit_rows.proofs.OneHart.{cluster_is}
use Rattle.unit_rows.proofs.NoInstruction.{no_instruction}
use Rattle.unit_rows.proofs.HintRows.{capacity-begun}

ask_is : (l : LineId) (h n t : ℕ) (own : Bool) (a : Cell) (b : Home) → act_row l h (ask_act own n t) a b ≡ record { cell = record a { slot = cond own (Owns n t Asked) (Reads n t Asked); acks = cond own (Counting 0 []) a.acks }; home = b; sent = to h (request_for l own) ∷ [] }
ask_is l h n t true a b = refl
ask_is l h n t false a b = refl

acks_here : (w : Config) (c l : ℕ) (t : TableView) (own : Bool) (a : Acks) → a ≡ acks_by w c (entry_at t l) → cond own (Counting 0 []) a ≡ acks_by w c (entry_at (asked_acks t l own) l)
acks_here w c l t true a e = sym (begun-acks w c t l)
acks_here w c l t false a e = e

acks_elsewhere : (t : TableView) (l : ℕ) (own : Bool) (q : ℕ) → q ≢ l → entry_at (asked_acks t l own) q ≡ entry_at t q
acks_elsewhere t l true q apart = begun-elsewhere t l q apart
acks_elsewhere t l false q apart = refl

-- the parts afterwards
abbrev pub after : PartsView → ℕ → ℕ → LineId → Bool → PartsView
after v n k l own = with_line v v.locals v.bus (with_slot v.slots n (Some (issued k l own))) (asked_acks v.acks l.0 own)

ask_shown : (w : Config) (c n k : ℕ) (l : LineId) (own : Bool) (v : PartsView) (p : Part) → k < w.top.harts → n < slot_count v.slots → IsOnePerLine v.slots.slots → AskFits w c v n k l.0 own → Shows w c v p
    → Happens w c (kind.Ask n (hart_id (hart_at w c k)) l own) (no_instruction w) (after v n k l own) (to (home_of w l.0) (request_for l own) ∷ []) p
unfolding Guard row
ask_shown w c n k l own v p low inside one f shows =
    let t = hart_at w c k in
    let d : LineEffect = record { cell = record (p.cells l.0) { slot = cond own (Owns n t Asked) (Reads n t Asked); acks = cond own (Counting 0 []) (p.cells l.0).acks }; home = p.homes l.0; sent = to (home_of w l.0) (request_for l own) ∷ [] } in
    let row_is : act_row (line_id l.0) (home_of w l.0) (ask_act own n t) (p.cells l.0) (p.homes l.0) ≡ d = ask_is l (home_of w l.0) n t own (p.cells l.0) (p.homes l.0) in
    record {
      guard = record {
        mine = cluster_is w c k low;
        may = record { empty = empty_shown w c n v p shows f.empty; lone = shows.slots l.0 ∙ ap (slot_in w c v.slots) f.lone; cause = f.cause p shows };
      };
      shows = subst (λ (x : LineEffect). Shows w c (after v n k l own) (on_line w l.0 x p).part) (sym row_is)
          (shows_line w c v (after v n k l own) p l.0 d shows
          (slot_turns w c v p l.0 d (with_slot v.slots n (Some (issued k l own))) (asked_acks v.acks l.0 own) shows refl
          (sym (slot_opened w c v.slots n l.0 (issued k l own) inside one f.empty f.lone refl))
          (λ q apart. slot_elsewhere w c v.slots n q (Some (issued k l own)) (ap (is_of q) f.empty) (test_differ l.0 q (λ i. apart (sym i))))
          (acks_here w c l.0 v.acks own (p.cells l.0).acks (shows.acks l.0)) (acks_elsewhere v.acks l.0 own) refl));
      sent_is = ap (λ (x : LineEffect). x.sent) row_is;
    }

pub asks : (w : Config) (c n k : ℕ) (h : HartId) (l : LineId) (own : Bool) (v : PartsView) (slots : SlotsView) (acks : TableView) (sent : Sent) → k < w.top.harts → n < slot_count v.slots → IsOnePerLine v.slots.slots → AskFits w c v n k l.0 own
    → h ≡ hart_id (hart_at w c k) → slots ≡ with_slot v.slots n (Some (issued k l own)) → acks ≡ asked_acks v.acks l.0 own → sent ≡ to (home_of w l.0) (request_for l own)
    → DoesChoice w c (Ask n) (kind.Ask n h l own) v (with_line v v.locals v.bus slots acks) (sent ∷ [])
asks w c n k h l own v slots acks sent low inside one f h_is slots_is acks_is sent_is =
    rw (h_is, slots_is, acks_is, sent_is)
    (let base : DoesChoice w c (Ask n) (kind.Ask n (hart_id (hart_at w c k)) l own) v (after v n k l own) (to (home_of w l.0) (request_for l own) ∷ []) =
    record { is_of = refl; does = record { done = no_instruction w; happens = λ p shows. ask_shown w c n k l own v p low inside one f shows } } in base)

-- the request as code has it
pub asks_for : (w : Config) (c n : ℕ) (h : HartId) (r : Request) (v : PartsView) (slots : SlotsView) (acks : TableView) (sent : Sent) → n < slot_count v.slots → IsOnePerLine v.slots.slots → RequestFits w c v n r
    → h ≡ hart_id (hart_at w c r.hart) → slots ≡ with_slot v.slots n (Some (issued r.hart r.line r.own)) → acks ≡ asked_acks v.acks r.line.0 r.own → sent ≡ to (home_of w r.line.0) (request_for r.line r.own)
    → DoesChoice w c (Ask n) (kind.Ask n h r.line r.own) v (with_line v v.locals v.bus slots acks) (sent ∷ [])
asks_for w c n h r v slots acks sent inside one f h_is slots_is acks_is sent_is = asks w c n r.hart h r.line r.own v slots acks sent f.local inside one f.fits h_is slots_is acks_is sent_is

-- the sizes afterwards
asked_capacity : (t : TableView) (l : ℕ) (own : Bool) → (asked_acks t l own).capacity ≡ t.capacity
asked_capacity t l true = capacity-begun t l
asked_capacity t l false = refl

asked_range : (w : Config) (t : TableView) (l : ℕ) (own : Bool) → l < line_count w.top → ((q : ℕ) (e : Counted) → entry_at t q ≡ Some e → q < line_count w.top) → (q : ℕ) (e : Counted) → entry_at (asked_acks t l own) q ≡ Some e → q < line_count w.top
asked_range w t l own inside low q e at = elim (same_or_not q l) [
  | inl same ↦ subst (λ i. i < line_count w.top) (sym same) inside
  | inr apart ↦ low q e (sym (acks_elsewhere t l own q apart) ∙ at)
]

pub sized_request : (w : Config) (c n : ℕ) (r : Request) (v : PartsView) (slots : SlotsView) (acks : TableView) → n < slot_count v.slots → AreSized w c v → RequestFits w c v n r → slots ≡ with_slot v.slots n (Some (issued r.hart r.line r.own)) → acks ≡ asked_acks v.acks r.line.0 r.own
    → AreSized w c (with_line v v.locals v.bus slots acks)
sized_request w c n r v slots acks low sized f slots_is acks_is =
    rw (slots_is, acks_is)
    (let base : AreSized w c (after v n r.hart r.line r.own) = sized_slots w c v n (Some (issued r.hart r.line r.own)) (asked_acks v.acks r.line.0 r.own) low sized
    (λ s e. let t : issued r.hart r.line r.own ≡ s = cc in subst (λ (y : Request). (y.hart < w.top.harts) × (y.line.0 < line_count w.top)) t (f.local, f.inside))
    (asked_capacity v.acks r.line.0 r.own) (asked_range w v.acks r.line.0 r.own f.inside sized.acks_in_range) in base)
