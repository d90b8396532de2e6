-- Install: where the line came to a slot of the code whose hart has room for it, the parts do the event's row.
use Rattle.std.proofs.Common.{◌≡◌, ℕ, ◌<◌, ◌&&◌, Bool, true, false, not, cond, None, Some, List, [], ◌∷◌, length, slice_index_or, slice_set, refl, sym, ap, ap₂, ◌∙◌, subst}
use Rattle.std.proofs.lemmas.List.{length-set}
use Rattle.dash_base.specs.declared.id.HartId.{HartId}
use Rattle.dash_base.specs.declared.line.Line.{Line}
use Rattle.dash_event.specs.declared.event.Kind.TheVariants as kind
use Rattle.remote_cache.specs.declared.slot.Slot.{Slot as Request}
use Rattle.remote_cache.specs.View.{SlotsView, count as slot_count, with_slot, IsOnePerLine}
use Rattle.snoop_bus.specs.Holding.{Holding, has_hart, holders_in}
use Rattle.snoop_bus.specs.Holding as bus
use Rattle.snoop_bus.specs.View.{BusView, holders_at, all_but, after_install, is_holder, IsOneMap}
use Rattle.dash_model.specs.Config.{Config, hart_id, line_id, home_of}
use Rattle.dash_model.specs.Cell.{Came, Slot, NoSlot, Reads, Owns, Held, Cell, Home}
use Rattle.dash_model.specs.Part.{Processor, Part}
use Rattle.dash_model.specs.LineEffect.{LineEffect}
use Rattle.dash_model.specs.HartRows.{PartEffect, unreserved, change, kept, on_line, acts, install}
use Rattle.dash_model.specs.LineGuards.{HasCome, InstallFits as InTable}
use Rattle.dash_model.specs.Guard.{Guard}
use Rattle.dash_model.specs.Row.{row}
use Rattle.dash_model.specs.Acts.{Install as Installs, act_row, install_row}
use Rattle.dash_model.specs.Words.{held_by}
use Rattle.unit_rows.specs.declared.parts.Local.{Local}
use Rattle.unit_rows.specs.declared.choice.Choice.TheVariants.{Install}
use Rattle.unit_rows.specs.Shown.{PartsView, hart_at, copy_by, phase_by, slot_by, HasFront, ShowsHart, Shows, AreSized}
use Rattle.unit_rows.specs.Rows.{Happens, DoesChoice}
use Rattle.unit_rows.specs.Sweeps.{swept, AreSwept}
use Rattle.unit_rows.specs.SlotFits.{InstallFits}
use Rattle.unit_rows.proofs.Harts.{with_local, shows_change}
use Rattle.unit_rows.proofs.Lines.{shows_line}
use Rattle.unit_rows.proofs.Swept.{reserved_word, harts_swept}
use Rattle.unit_rows.proofs.BusTurns.{held-installed, with_line, line_turns}
use Rattle.unit_rows.proofs.SlotsOn.{slot_is, slot_closed, slot_elsewhere}
use Rattle.unit_rows.proofs.SlotTurns.{slots_range, slots_count}
use Rattle.unit_rows.proofs.OneHart.{shown_hart, cluster_is}
use Rattle.unit_rows.proofs.RoomOn.{held_is, room_table}
use Rattle.unit_rows.proofs.BusRows.{alone_leave, swept_between}
use Rattle.unit_rows.proofs.Sized.{SameSizes, set_sizes, swept_sizes, swept_size, swept_front, more_sizes, sized_line}
use Rattle.unit_rows.proofs.AgainRow.{on_line_of, off_line_of}
use Rattle.unit_rows.proofs.NoInstruction.{no_instruction}

-- a slot to which the line came
abbrev pub has_come : Bool → ℕ → ℕ → Line → Slot
has_come own n t d = cond own (Owns n t (Came d)) (Reads n t (Came d))

install_is : (n t : ℕ) (d : Line) (own : Bool) (a : Cell) (b : Home) → install_row (has_come own n t d) a b ≡ record { cell = record a { slot = NoSlot; copy = Held (t ∷ []) (cond own (Some t) None) d }; home = b; sent = [] }
install_is n t d true a b = refl
install_is n t d false a b = refl

guarded : (n t : ℕ) (d : Line) (own : Bool) → HasCome n t (has_come own n t d)
guarded n t d true = (refl, refl)
guarded n t d false = (refl, refl)

-- the hart's own reservation
abbrev pub kept_if : Config → ℕ → Bool → Processor → Processor
kept_if w l clears s = cond clears (record s { reserved = unreserved w l s.reserved }) s

kept_is : (w : Config) (l n t : ℕ) (d : Line) (own holder : Bool) (s : Processor) → kept w l (has_come own n t d) holder s ≡ kept_if w l (own && not holder) s
kept_is w l n t d true true s = refl
kept_is w l n t d true false s = refl
kept_is w l n t d false true s = refl
kept_is w l n t d false false s = refl

kept_shown : (w : Config) (b : BusView) (l k : ℕ) (x : Local) (s : Processor) (clears : Bool) → ShowsHart w b k x s → ShowsHart w b k (swept w l clears x) (kept_if w l clears s)
kept_shown w b l k x s true h = record { core = h.core; reserved = ap (unreserved w l) h.reserved ∙ sym (reserved_word w l x.reserved); buffer = h.buffer; asked = h.asked; l1 = h.l1 }
kept_shown w b l k x s false h = h

-- the parts afterwards
abbrev pub after : PartsView → ℕ → Request → Line → List Local → PartsView
after v n s d locals = with_line v locals (after_install v.bus s.hart s.line.0 d s.own) (with_slot v.slots n None) v.acks

-- whether the hart loses its own reservation in the line
abbrev pub clears : PartsView → Request → Bool
clears v s = s.own && not (is_holder v.bus s.hart s.line.0)

line_shown : (w : Config) (c n : ℕ) (v : PartsView) (s : Request) (d : Line) (x : Local) (locals : List Local) (q : Part) → n < slot_count v.slots → IsOnePerLine v.slots.slots → IsOneMap v.bus → AreSized w c v → InstallFits w v n s d
    → AreSwept w s.line.0 (holders_at v.bus s.line.0) (holders_in (bus.held_by s.hart d s.own)) (slice_set v.locals s.hart x) locals
    → (q.cells s.line.0).slot ≡ has_come s.own n (hart_at w c s.hart) d → Shows w c (with_local v s.hart x) q → Shows w c (after v n s d locals) (acts w s.line.0 Installs q).part
line_shown w c n v s d x locals q low one map sized f are slot shows =
    let l = s.line.0 in
    let t = hart_at w c s.hart in
    let o = bus.held_by s.hart d s.own in
    let e : LineEffect = record { cell = record (q.cells l) { slot = NoSlot; copy = Held (t ∷ []) (cond s.own (Some t) None) d }; home = q.homes l; sent = [] } in
    let row_is : act_row (line_id l) (home_of w l) Installs (q.cells l) (q.homes l) ≡ e = ap (λ y. install_row y (q.cells l) (q.homes l)) slot ∙ install_is n t d s.own (q.cells l) (q.homes l) in
    let copy : Held (t ∷ []) (cond s.own (Some t) None) d ≡ copy_by w c o = sym (held-installed w c s.hart d s.own f.local) in
    subst (λ (y : LineEffect). Shows w c (after v n s d locals) (on_line w l y q).part) (sym row_is)
    (shows_line w c (with_local v s.hart x) (after v n s d locals) q l e shows
    (line_turns w c (with_local v s.hart x) q l e (all_but s.hart) o locals (with_slot v.slots n None) v.acks shows
    (harts_swept w c (with_local v s.hart x) q l (all_but s.hart) o (Held (t ∷ []) (cond s.own (Some t) None) d) locals (length-set v.locals s.hart x ∙ sized.locals) sized.bus_harts map shows (alone_leave w v.bus s.hart l o refl) copy are)
    copy (sym (slot_closed w c v.slots n l low one (on_line_of v.slots n s f.at))) (λ m apart. slot_elsewhere w c v.slots n m None (off_line_of v.slots n m s f.at apart) refl)
    (shows.acks l) (λ m apart. refl) refl))

slot_has : (w : Config) (c n : ℕ) (v : PartsView) (s : Request) (d : Line) (p : Part) → IsOnePerLine v.slots.slots → InstallFits w v n s d → Shows w c v p → (p.cells s.line.0).slot ≡ has_come s.own n (hart_at w c s.hart) d
slot_has w c n v s d p one f shows =
    let t = hart_at w c s.hart in
    shows.slots s.line.0 ∙ slot_is w c v.slots s.line.0 n one (on_line_of v.slots n s f.at) ∙ ap (slot_by w c n) f.at ∙ ap (λ y. cond s.own (Owns n t (phase_by y)) (Reads n t (phase_by y))) f.came

pub fits : (w : Config) (c n : ℕ) (v : PartsView) (s : Request) (d : Line) (p : Part) → IsOnePerLine v.slots.slots → AreSized w c v → InstallFits w v n s d → Shows w c v p → InTable w c n (hart_at w c s.hart) s.line.0 p
fits w c n v s d p one sized f shows = record {
  mine = cluster_is w c s.hart f.local;
  came = subst (HasCome n (hart_at w c s.hart)) (sym (slot_has w c n v s d p one f shows)) (guarded n (hart_at w c s.hart) d s.own);
  room = room_table w c v p s.hart s.line.0 f.local sized shows f.room;
}

install_shown : (w : Config) (c n : ℕ) (v : PartsView) (s : Request) (d : Line) (x : Local) (locals : List Local) (p : Part) → n < slot_count v.slots → IsOnePerLine v.slots.slots → IsOneMap v.bus → AreSized w c v → InstallFits w v n s d
    → x ≡ slice_index_or v.locals s.hart x → AreSwept w s.line.0 (holders_at v.bus s.line.0) (holders_in (bus.held_by s.hart d s.own)) (slice_set v.locals s.hart (swept w s.line.0 (clears v s) x)) locals → Shows w c v p
    → Happens w c (kind.Install n (hart_id (hart_at w c s.hart)) s.line) (no_instruction w) (after v n s d locals) [] p
unfolding Guard row
install_shown w c n v s d x locals p low one map sized f here are shows =
    let l = s.line.0 in
    let t = hart_at w c s.hart in
    let slot : (p.cells l).slot ≡ has_come s.own n t d = slot_has w c n v s d p one f shows in
    let holder : held_by t (p.cells l).copy ≡ is_holder v.bus s.hart l = held_is w c v p s.hart l f.local shows in
    let hart : kept w l (p.cells l).slot (held_by t (p.cells l).copy) (p.harts t) ≡ kept_if w l (clears v s) (p.harts t) =
    ap₂ (λ y z. kept w l y z (p.harts t)) slot holder ∙ kept_is w l n t d s.own (is_holder v.bus s.hart l) (p.harts t) in
    let row_is : install w t l p ≡ acts w l Installs (change t (kept_if w l (clears v s) (p.harts t)) p) = ap (λ y. acts w l Installs (change t y p)) hart in
    let all = line_shown w c n v s d (swept w l (clears v s) x) locals (change t (kept_if w l (clears v s) (p.harts t)) p) low one map sized f are slot
    (shows_change w c v p s.hart (swept w l (clears v s) x) (kept_if w l (clears v s) (p.harts t)) f.local sized.locals shows (kept_shown w v.bus l s.hart x (p.harts t) (clears v s) (shown_hart w c v p s.hart x f.local sized shows here))) in
    let quiet : (acts w l Installs (change t (kept_if w l (clears v s) (p.harts t)) p)).sent ≡ [] = ap (λ y. (install_row y (p.cells l) (p.homes l)).sent) slot ∙ ap (λ (y : LineEffect). y.sent) (install_is n t d s.own (p.cells l) (p.homes l)) in
    record {
      guard = fits w c n v s d p one sized f shows;
      shows = subst (λ (y : PartEffect). Shows w c (after v n s d locals) y.part) (sym row_is) all;
      sent_is = ap (λ (y : PartEffect). y.sent) row_is ∙ quiet;
    }

pub installs : (w : Config) (c n a m : ℕ) (v : PartsView) (s : Request) (d : Line) (h : HartId) (x y : Local) (b : BusView) (slots : SlotsView) (first locals : List Local) (clear : Bool) → n < slot_count v.slots → IsOnePerLine v.slots.slots → IsOneMap v.bus → AreSized w c v → InstallFits w v n s d
    → h ≡ hart_id (hart_at w c s.hart) → b ≡ after_install v.bus s.hart s.line.0 d s.own → slots ≡ with_slot v.slots n None → x ≡ slice_index_or v.locals s.hart x → clear ≡ (s.own && not (has_hart a s.hart)) → y ≡ swept w s.line.0 clear x → first ≡ slice_set v.locals s.hart y
    → a ≡ holders_at v.bus s.line.0 → m ≡ holders_at b s.line.0 → AreSwept w s.line.0 a m first locals → DoesChoice w c (Install n) (kind.Install n h s.line) v (with_line v locals b slots v.acks) []
installs w c n a m v s d h x y b slots first locals clear low one map sized f h_is b_is slots_is here clear_is y_is first_is a_is m_is are =
    let clear_now : clear ≡ clears v s = clear_is ∙ ap (λ z. s.own && not (has_hart z s.hart)) a_is in
    let cleared : first ≡ slice_set v.locals s.hart (swept w s.line.0 (clears v s) x) = first_is ∙ ap (slice_set v.locals s.hart) (y_is ∙ ap (λ z. swept w s.line.0 z x) clear_now) in
    let swept_now = subst (λ z. AreSwept w s.line.0 (holders_at v.bus s.line.0) (holders_in (bus.held_by s.hart d s.own)) z locals) cleared (swept_between w s.line.0 a m v.bus b (all_but s.hart) (bus.held_by s.hart d s.own) first locals b_is a_is m_is are) in
    rw (b_is, h_is, slots_is)
    (let base : DoesChoice w c (Install n) (kind.Install n (hart_id (hart_at w c s.hart)) s.line) v (after v n s d locals) [] =
    record { is_of = refl; does = record { done = no_instruction w; happens = λ p shows. install_shown w c n v s d x locals p low one map sized f here swept_now shows } } in base)

pub sized_installed : (w : Config) (c n a m : ℕ) (v : PartsView) (s : Request) (d : Line) (x y : Local) (b : BusView) (slots : SlotsView) (first locals : List Local) (clear : Bool) → n < slot_count v.slots → AreSized w c v → InstallFits w v n s d
    → b ≡ after_install v.bus s.hart s.line.0 d s.own → slots ≡ with_slot v.slots n None → x ≡ slice_index_or v.locals s.hart x → y ≡ swept w s.line.0 clear x → first ≡ slice_set v.locals s.hart y → AreSwept w s.line.0 a m first locals → AreSized w c (with_line v locals b slots v.acks)
sized_installed w c n a m v s d x y b slots first locals clear low sized f b_is slots_is here y_is first_is are =
    let inside : s.hart < length v.locals = subst (λ z. s.hart < z) (sym sized.locals) f.local in
    let sizes : SameSizes w v.locals first = subst (SameSizes w v.locals) (sym first_is) (set_sizes w v.locals s.hart y x inside here (ap (λ (z : Local). z.buffer.capacity) y_is ∙ swept_size w s.line.0 clear x) (λ f. subst (HasFront w) (sym y_is) (swept_front w s.line.0 clear x f))) in
    rw (b_is, slots_is)
    (let base : AreSized w c (after v n s d locals) =
    sized_line w c v locals (all_but s.hart) s.line.0 (bus.held_by s.hart d s.own) (with_slot v.slots n None) v.acks sized (more_sizes w v.locals first locals sizes (swept_sizes w s.line.0 a m first locals are)) refl (slots_count v.slots n None)
    (slots_range w v.slots n None low sized.slots_in_range (λ r e. absurd (cc))) refl sized.acks_in_range in base)
