-- Evict: where the code's parts let a hart give up a line, what they do is the event's row, for the owner and for another holder.
use Rattle.std.proofs.Common.{◌≡◌, ◌⊎◌, ℕ, ◌<◌, ◌≤◌, ◌==◌, ◌&&◌, Bool, true, false, not, cond, Option, None, Some, List, [], ◌∷◌, refl, sym, ap, ap₂, ◌∙◌, subst, inl, inr, arith}
use Rattle.dash_base.specs.declared.id.HartId.{HartId}
use Rattle.dash_base.specs.declared.id.LineId.{LineId}
use Rattle.dash_base.specs.declared.line.Line.{Line}
use Rattle.dash_msg.specs.declared.msg.Msg.TheVariants.{WriteBack}
use Rattle.dash_msg.specs.declared.parcel.Sent.{Sent}
use Rattle.dash_event.specs.declared.event.Kind.TheVariants as kind
use Rattle.ack_counter.specs.View.{entry_at, is_pending}
use Rattle.snoop_bus.specs.Holding.{Holding, has_hart, without_hart, holders_in, owner_in, copy_in, left_by, IsProper, IsProperHolding}
use Rattle.snoop_bus.specs.Holding as bus
use Rattle.snoop_bus.specs.View.{BusView, holding_at, holders_at, owner_at, copy_of, everybody, only, changed, after_clear, after_drop, harts as bus_harts, IsOneMap}
use Rattle.snoop_bus.proofs.LawsOffered.{has_hart-without_hart, has_hart-zero}
use Rattle.dash_model.specs.Config.{Config, hart_id, line_id, home_of}
use Rattle.dash_model.specs.Net.{to}
use Rattle.dash_model.specs.Cell.{NoCopy, Held, NoAcks, Cell, Home}
use Rattle.dash_model.specs.Part.{Part}
use Rattle.dash_model.specs.LineEffect.{LineEffect, is_owner}
use Rattle.dash_model.specs.HartRows.{on_line, evict_act}
use Rattle.dash_model.specs.LineGuards.{EvictFits as InTable}
use Rattle.dash_model.specs.Guard.{Guard}
use Rattle.dash_model.specs.Row.{row}
use Rattle.dash_model.specs.Acts.{Evict as Gives, Drop as Drops, act_row, evict_row, drop_hart}
use Rattle.unit_rows.specs.declared.parts.Local.{Local}
use Rattle.unit_rows.specs.declared.choice.Choice.TheVariants.{Evict}
use Rattle.unit_rows.specs.Shown.{PartsView, hart_at, harts_by, owner_by, copy_by, Shows, AreSized}
use Rattle.unit_rows.specs.Rows.{Happens, DoesChoice}
use Rattle.unit_rows.specs.Sweeps.{AreSwept}
use Rattle.unit_rows.specs.EvictFits.{EvictFits}
use Rattle.unit_rows.proofs.Same.{is_same, test_same}
use Rattle.unit_rows.proofs.Copies.{is_owner-copy_by}
use Rattle.unit_rows.proofs.Lines.{shows_line}
use Rattle.unit_rows.proofs.Swept.{Leaves, harts_swept}
use Rattle.unit_rows.proofs.BusTurns.{with_line, bus_turns}
use Rattle.unit_rows.proofs.AcksOn.{not_pending}
use Rattle.unit_rows.proofs.OneHart.{cluster_is}
use Rattle.unit_rows.proofs.RoomOn.{held_is}
use Rattle.unit_rows.proofs.Leaving.{left-copy_by}
use Rattle.unit_rows.proofs.NoInstruction.{no_instruction}

-- the guard
leaves_by : (w : Config) (c k l : ℕ) (v : PartsView) (p : Part) → Shows w c v p → (is_pending v.acks l ≡ false) ⊎ (bus.is_owner (owner_at v.bus l) k ≡ false) → ((p.cells l).acks ≡ NoAcks) ⊎ (is_owner (hart_at w c k) (p.cells l).copy ≡ false)
leaves_by w c k l v p shows (inl e) = inl (shows.acks l ∙ not_pending w c (entry_at v.acks l) e)
leaves_by w c k l v p shows (inr e) = inr (ap (is_owner (hart_at w c k)) (shows.copies l) ∙ is_owner-copy_by w c k (holding_at v.bus l) ∙ e)

pub fits : (w : Config) (c k l : ℕ) (v : PartsView) (p : Part) → k < w.top.harts → EvictFits w c v k l → Shows w c v p → InTable w c (hart_at w c k) l p
fits w c k l v p low f shows =
    let o = f.other p shows in
    record { mine = cluster_is w c k low; holder = held_is w c v p k l low shows ∙ f.holder; other = o.other; differs = o.differs; index = o.index; wants = o.is_so; may_leave = leaves_by w c k l v p shows f.may_leave }

-- all leave, where the owner gives the line up
all_leave : (w : Config) (b : BusView) (l : ℕ) → Leaves w b l None everybody
all_leave w b l = record {
  lost = λ j low has has_not. refl;
  stays = λ j low has. absurd (let f : true ≡ false = sym has ∙ has_hart-zero j in cc);
}

-- the row of the owner
gives_up : (l : LineId) (h : ℕ) (w : Config) (c : ℕ) (o : Option Holding) (d : Line) (k : ℕ) (a : Cell) (b : Home) → owner_in o ≡ Some k → copy_in o ≡ Some d → evict_row l h (copy_by w c o) a b ≡ record { cell = record a { copy = NoCopy }; home = b; sent = to h (WriteBack l d) ∷ [] }
gives_up l h w c None d k a b owner copy = absurd (cc)
gives_up l h w c (Some x) d k a b owner copy =
    let same : x.copy ≡ d = cc in
    ap₂ (λ o y. evict_row l h (Held (harts_by w c (has_hart x.holders)) (owner_by w c o) y) a b) owner same

owner_shown : (w : Config) (c k l : ℕ) (v : PartsView) (d : Line) (locals : List Local) (p : Part) → k < w.top.harts → AreSized w c v → IsOneMap v.bus → EvictFits w c v k l → owner_at v.bus l ≡ Some k → copy_of v.bus l ≡ Some d
    → AreSwept w l (holders_at v.bus l) 0 v.locals locals → Shows w c v p
    → Happens w c (kind.Evict (hart_id (hart_at w c k)) (line_id l)) (no_instruction w) (with_line v locals (after_clear v.bus l) v.slots v.acks) (to (home_of w l) (WriteBack (line_id l) d) ∷ []) p
unfolding Guard row
owner_shown w c k l v d locals p low sized map f owner copy are shows =
    let h = hart_at w c k in
    let z = with_line v locals (after_clear v.bus l) v.slots v.acks in
    let e : LineEffect = record { cell = record (p.cells l) { copy = NoCopy }; home = p.homes l; sent = to (home_of w l) (WriteBack (line_id l) d) ∷ [] } in
    let owns : is_owner h (p.cells l).copy ≡ true = ap (is_owner h) (shows.copies l) ∙ is_owner-copy_by w c k (holding_at v.bus l) ∙ ap (λ o. bus.is_owner o k) owner ∙ test_same k in
    let row_is : act_row (line_id l) (home_of w l) (evict_act h (p.cells l).copy) (p.cells l) (p.homes l) ≡ e =
    ap (λ b. act_row (line_id l) (home_of w l) (cond b (Gives h) (Drops h)) (p.cells l) (p.homes l)) owns
    ∙ ap (λ x. evict_row (line_id l) (home_of w l) x (p.cells l) (p.homes l)) (shows.copies l)
    ∙ gives_up (line_id l) (home_of w l) w c (holding_at v.bus l) d k (p.cells l) (p.homes l) owner copy in
    record {
      guard = fits w c k l v p low f shows;
      shows = subst (λ (x : LineEffect). Shows w c z (on_line w l x p).part) (sym row_is)
          (shows_line w c v z p l e shows
          (bus_turns w c v p l e everybody None locals shows
          (harts_swept w c v p l everybody None NoCopy locals sized.locals sized.bus_harts map shows (all_leave w v.bus l) refl are)
          refl refl refl refl));
      sent_is = ap (λ (x : LineEffect). x.sent) row_is;
    }

-- one leaves, where another holder gives the line up
left_has : (k j : ℕ) (h : Holding) (b : Bool) → (without_hart h.holders k == 0) ≡ b → has_hart (holders_in (left_by k (Some h))) j ≡ has_hart (without_hart h.holders k) j
left_has k j h b e = by_zero (without_hart h.holders k == 0) refl
  where
    by_zero : (z : Bool) → (without_hart h.holders k == 0) ≡ z → has_hart (holders_in (cond z None (Some (record { holders = without_hart h.holders k; owner = cond (bus.is_owner h.owner k) None h.owner; copy = h.copy })))) j ≡ has_hart (without_hart h.holders k) j
    by_zero true i = ap (λ n. has_hart n j) (sym (is_same (without_hart h.holders k) 0 i))
    by_zero false i = refl

both_not : (a b : Bool) → b ≡ true → not a && b ≡ false → a ≡ true
both_not true b e f = refl
both_not false b e f = absurd (cc)

left_not : (a b : Bool) → not a && b ≡ true → a ≡ false
left_not true b e = absurd (cc)
left_not false b e = refl

one_leaves : (w : Config) (b : BusView) (k l : ℕ) (h : Holding) → holding_at b l ≡ Some h → k < w.top.harts → w.top.harts ≤ 4 → Leaves w b l (left_by k (Some h)) (only k)
one_leaves w b k l h at low few = record {
  lost = λ j below has has_not. both_not (j == k) (has_hart h.holders j) (ap (λ o. has_hart (holders_in o) j) (sym at) ∙ has) (sym (has_hart-without_hart h.holders k j (omega arith) (omega arith)) ∙ sym (left_has k j h (without_hart h.holders k == 0) refl) ∙ has_not);
  stays = λ j below has. left_not (j == k) (has_hart h.holders j) (sym (has_hart-without_hart h.holders k j (omega arith) (omega arith)) ∙ sym (left_has k j h (without_hart h.holders k == 0) refl) ∙ has);
}

holder_shown : (w : Config) (c k l : ℕ) (v : PartsView) (h : Holding) (locals : List Local) (p : Part) → k < w.top.harts → w.top.harts ≤ 4 → AreSized w c v → IsOneMap v.bus → EvictFits w c v k l → holding_at v.bus l ≡ Some h → bus.is_owner h.owner k ≡ false
    → AreSwept w l (holders_at v.bus l) (holders_in (left_by k (Some h))) v.locals locals → Shows w c v p
    → Happens w c (kind.Evict (hart_id (hart_at w c k)) (line_id l)) (no_instruction w) (with_line v locals (changed v.bus (only k) l (left_by k (Some h))) v.slots v.acks) [] p
unfolding Guard row
holder_shown w c k l v h locals p low few sized map f at apart are shows =
    let t = hart_at w c k in
    let o = left_by k (Some h) in
    let z = with_line v locals (changed v.bus (only k) l o) v.slots v.acks in
    let e : LineEffect = record { cell = record (p.cells l) { copy = drop_hart t (p.cells l).copy }; home = p.homes l; sent = [] } in
    let proper : IsProperHolding w.top.harts h = subst (λ n. IsProperHolding n h) sized.bus_harts (subst (IsProper (bus_harts v.bus)) at (map.lines l)) in
    let owns : is_owner t (p.cells l).copy ≡ false = ap (is_owner t) (shows.copies l) ∙ is_owner-copy_by w c k (holding_at v.bus l) ∙ ap (λ x. bus.is_owner (owner_in x) k) at ∙ apart in
    let row_is : act_row (line_id l) (home_of w l) (evict_act t (p.cells l).copy) (p.cells l) (p.homes l) ≡ e = ap (λ b. act_row (line_id l) (home_of w l) (cond b (Gives t) (Drops t)) (p.cells l) (p.homes l)) owns in
    let copy : drop_hart t (p.cells l).copy ≡ copy_by w c o = ap (drop_hart t) (shows.copies l ∙ ap (copy_by w c) at) ∙ left-copy_by w c k h low few proper apart in
    record {
      guard = fits w c k l v p low f shows;
      shows = subst (λ (x : LineEffect). Shows w c z (on_line w l x p).part) (sym row_is)
          (shows_line w c v z p l e shows
          (bus_turns w c v p l e (only k) o locals shows
          (harts_swept w c v p l (only k) o (drop_hart t (p.cells l).copy) locals sized.locals sized.bus_harts map shows (one_leaves w v.bus k l h at low few) copy are)
          copy refl refl refl));
      sent_is = ap (λ (x : LineEffect). x.sent) row_is;
    }

pub owner_evicts : (w : Config) (c k : ℕ) (v : PartsView) (g : HartId) (l : LineId) (d : Line) (b : BusView) (locals : List Local) (sent : Sent) → k < w.top.harts → AreSized w c v → IsOneMap v.bus → EvictFits w c v k l.0 → owner_at v.bus l.0 ≡ Some k → copy_of v.bus l.0 ≡ Some d
    → g ≡ hart_id (hart_at w c k) → b ≡ after_clear v.bus l.0 → sent ≡ to (home_of w l.0) (WriteBack l d) → AreSwept w l.0 (holders_at v.bus l.0) 0 v.locals locals → DoesChoice w c (Evict k l) (kind.Evict g l) v (with_line v locals b v.slots v.acks) (sent ∷ [])
owner_evicts w c k v g l d b locals sent low sized map f owner copy g_is b_is sent_is are =
    rw (b_is, g_is, sent_is)
    (let base : DoesChoice w c (Evict k l) (kind.Evict (hart_id (hart_at w c k)) l) v (with_line v locals (after_clear v.bus l.0) v.slots v.acks) (to (home_of w l.0) (WriteBack l d) ∷ []) =
    record { is_of = (refl, refl); does = record { done = no_instruction w; happens = λ p shows. owner_shown w c k l.0 v d locals p low sized map f owner copy are shows } } in base)

pub holder_evicts : (w : Config) (c k : ℕ) (v : PartsView) (g : HartId) (l : LineId) (h : Holding) (b : BusView) (locals : List Local) → k < w.top.harts → w.top.harts ≤ 4 → AreSized w c v → IsOneMap v.bus → EvictFits w c v k l.0 → holding_at v.bus l.0 ≡ Some h → bus.is_owner h.owner k ≡ false
    → g ≡ hart_id (hart_at w c k) → b ≡ after_drop v.bus k l.0 → AreSwept w l.0 (holders_at v.bus l.0) (holders_in (left_by k (Some h))) v.locals locals → DoesChoice w c (Evict k l) (kind.Evict g l) v (with_line v locals b v.slots v.acks) []
holder_evicts w c k v g l h b locals low few sized map f at apart g_is b_is are =
    rw (b_is ∙ ap (λ o. changed v.bus (only k) l.0 (left_by k o)) at, g_is)
    (let base : DoesChoice w c (Evict k l) (kind.Evict (hart_id (hart_at w c k)) l) v (with_line v locals (changed v.bus (only k) l.0 (left_by k (Some h))) v.slots v.acks) [] =
    record { is_of = (refl, refl); does = record { done = no_instruction w; happens = λ p shows. holder_shown w c k l.0 v h locals p low few sized map f at apart are shows } } in base)
