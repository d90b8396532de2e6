-- Evict is enabled only where the code's parts let the hart give up the line; and what the calls of the code do there.
use Rattle.std.proofs.Common.{◌≡◌, ◌⊎◌, ℕ, ◌<◌, ◌&&◌, Bool, true, false, Option, None, Some, List, [], refl, sym, ap, ◌∙◌, subst, inl, inr}
use Rattle.dash_base.specs.declared.id.LineId.{LineId}
use Rattle.dash_msg.specs.declared.parcel.Sent.{Sent}
use Rattle.dash_event.specs.declared.event.Kind.{Kind}
use Rattle.dash_event.specs.declared.event.Kind.TheVariants as kind
use Rattle.ack_counter.specs.View.{entry_at, is_pending}
use Rattle.snoop_bus.specs.Holding.{Holding, has_hart, holders_in, owner_in, left_by}
use Rattle.snoop_bus.specs.Holding as bus
use Rattle.snoop_bus.specs.View.{BusView, holding_at, holders_at, owner_at, is_holder, only, after_drop, after_clear, everybody, IsOneMap}
use Rattle.snoop_bus.proofs.LawsOffered.{has_hart-zero}
use Rattle.dash_model.specs.Config.{Config, hart_id}
use Rattle.dash_model.specs.Cell.{NoAcks}
use Rattle.dash_model.specs.LineEffect.{is_owner}
use Rattle.dash_model.specs.Part.{Part}
use Rattle.dash_model.specs.HartRows.{HartEffect}
use Rattle.dash_model.specs.LineGuards.{EvictFits as InTable}
use Rattle.dash_model.specs.Guard.{Guard}
use Rattle.dash_model.specs.Wants.{Wants}
use Rattle.unit_rows.specs.declared.parts.Local.{Local}
use Rattle.unit_rows.specs.declared.choice.Choice.TheVariants.{Evict}
use Rattle.unit_rows.specs.Shown.{PartsView, hart_at, Shows, AreSized}
use Rattle.unit_rows.specs.Choices.{IsOf}
use Rattle.unit_rows.specs.Rows.{Enabled, Cannot, DoesChoice}
use Rattle.unit_rows.specs.Sweeps.{AreSwept}
use Rattle.unit_rows.specs.EvictFits.{Another, Tells, EvictFits, event_of}
use Rattle.unit_rows.proofs.Same.{is_same}
use Rattle.unit_rows.proofs.Copies.{is_owner-copy_by}
use Rattle.unit_rows.proofs.AcksOn.{pending_not}
use Rattle.unit_rows.proofs.RoomOn.{held_is}
use Rattle.unit_rows.proofs.BusRows.{swept_between}
use Rattle.unit_rows.proofs.BusTurns.{with_line}
use Rattle.unit_rows.proofs.Sized.{swept_sizes, sized_bus}
use Rattle.unit_rows.proofs.EvictRow.{holder_evicts}

-- the table's guard of an enabled choice
evict_guard : (w : Config) (c k : ℕ) (l : LineId) (p : Part) (e : Kind) (d : HartEffect) → IsOf w c (Evict k l) e → Guard w c e d p → InTable w c (hart_at w c k) l.0 p
unfolding Guard
evict_guard w c k l p (kind.Evict g line) d is guard = subst (λ y. InTable w c y l.0 p) is.0 (subst (λ (y : LineId). InTable w c g.0 y.0 p) is.1 guard)
evict_guard w c k l p e d is guard = absurd is

pub told : (w : Config) (c k : ℕ) (l : LineId) (p : Part) → Enabled w c (Evict k l) p → InTable w c (hart_at w c k) l.0 p
told w c k l p able = evict_guard w c k l p able.event able.done able.is_of able.guard

pub not_held : (w : Config) (c k : ℕ) (v : PartsView) (l : LineId) → k < w.top.harts → is_holder v.bus k l.0 ≡ false → Cannot w c v (Evict k l)
not_held w c k v l low none p shows able =
    let f : true ≡ false = sym (told w c k l p able).holder ∙ held_is w c v p k l.0 low shows ∙ none in absurd (cc)

both : (a b : Bool) → a && b ≡ true → (a ≡ true) × (b ≡ true)
both true true e = (refl, refl)
both true false e = absurd (cc)
both false b e = absurd (cc)

may_not : (w : Config) (c k : ℕ) (v : PartsView) (l : LineId) (p : Part) → Shows w c v p → is_pending v.acks l.0 ≡ true → bus.is_owner (owner_at v.bus l.0) k ≡ true → ((p.cells l.0).acks ≡ NoAcks) ⊎ (is_owner (hart_at w c k) (p.cells l.0).copy ≡ false) → ⊥
may_not w c k v l p shows pending owns (inl e) =
    let f : true ≡ false = sym pending ∙ pending_not w c (entry_at v.acks l.0) (sym (shows.acks l.0) ∙ e) in absurd (cc)
may_not w c k v l p shows pending owns (inr e) =
    let f : true ≡ false = sym owns ∙ sym (is_owner-copy_by w c k (holding_at v.bus l.0)) ∙ sym (ap (is_owner (hart_at w c k)) (shows.copies l.0)) ∙ e in absurd (cc)

pub still_pending : (w : Config) (c k : ℕ) (v : PartsView) (l : LineId) → is_pending v.acks l.0 && bus.is_owner (owner_at v.bus l.0) k ≡ true → Cannot w c v (Evict k l)
still_pending w c k v l e p shows able =
    let t = both (is_pending v.acks l.0) (bus.is_owner (owner_at v.bus l.0) k) e in
    may_not w c k v l p shows t.0 t.1 (told w c k l p able).may_leave

pub not_wanted : (w : Config) (c k : ℕ) (v : PartsView) (l : LineId) (b : Bool) → Tells w c v l.0 (Wants w (hart_at w c k)) b → b ≡ false → Cannot w c v (Evict k l)
not_wanted w c k v l true tells e p shows able = absurd (cc)
not_wanted w c k v l false tells e p shows able =
    let t = told w c k l p able in tells p shows (record { other = t.other; differs = t.differs; index = t.index; is_so = t.wants })

-- where it may
pub wanted : (w : Config) (c k : ℕ) (v : PartsView) (l : ℕ) (b : Bool) → Tells w c v l (Wants w (hart_at w c k)) b → b ≡ true → (p : Part) → Shows w c v p → Another w l (Wants w (hart_at w c k)) p
wanted w c k v l true tells e = tells
wanted w c k v l false tells e = absurd (cc)

pub either_not : (a b : Bool) → a && b ≡ false → (a ≡ false) ⊎ (b ≡ false)
either_not false b e = inl refl
either_not true false e = inr refl
either_not true true e = absurd (cc)

pub owner_is : (o : Option ℕ) (k : ℕ) → bus.is_owner o k ≡ true → o ≡ Some k
owner_is None k e = absurd (cc)
owner_is (Some n) k e = ap Some (is_same n k e)

-- another holder leaves
leaves_at : (w : Config) (c k n m : ℕ) (v : PartsView) (l : LineId) (b : BusView) (locals : List Local) (o : Option Holding) → k < w.top.harts → AreSized w c v → IsOneMap v.bus → EvictFits w c v k l.0 → holding_at v.bus l.0 ≡ o → bus.is_owner (owner_in o) k ≡ false
    → b ≡ after_drop v.bus k l.0 → n ≡ holders_at v.bus l.0 → m ≡ holders_at b l.0 → AreSwept w l.0 n m v.locals locals → DoesChoice w c (Evict k l) (event_of w c k l) v (with_line v locals b v.slots v.acks) []
leaves_at w c k n m v l b locals None low sized map f at apart b_is n_is m_is are =
    let t : true ≡ false = sym f.holder ∙ ap (λ o. has_hart (holders_in o) k) at ∙ has_hart-zero k in absurd (cc)
leaves_at w c k n m v l b locals (Some h) low sized map f at apart b_is n_is m_is are =
    let swept = swept_between w l.0 n m v.bus b (only k) (left_by k (holding_at v.bus l.0)) v.locals locals b_is n_is m_is are in
    holder_evicts w c k v (hart_id (hart_at w c k)) l h b locals low w.top.harts_in_range.high sized map f at apart refl b_is (subst (λ o. AreSwept w l.0 (holders_at v.bus l.0) (holders_in (left_by k o)) v.locals locals) at swept)

pub leaves : (w : Config) (c k n m : ℕ) (v : PartsView) (l : LineId) (b : BusView) (locals : List Local) → k < w.top.harts → AreSized w c v → IsOneMap v.bus → EvictFits w c v k l.0 → bus.is_owner (owner_at v.bus l.0) k ≡ false
    → b ≡ after_drop v.bus k l.0 → n ≡ holders_at v.bus l.0 → m ≡ holders_at b l.0 → AreSwept w l.0 n m v.locals locals → DoesChoice w c (Evict k l) (event_of w c k l) v (with_line v locals b v.slots v.acks) []
leaves w c k n m v l b locals low sized map f apart b_is n_is m_is are = leaves_at w c k n m v l b locals (holding_at v.bus l.0) low sized map f refl apart b_is n_is m_is are

pub sized_leave : (w : Config) (c k l n m : ℕ) (v : PartsView) (b : BusView) (locals : List Local) → AreSized w c v → b ≡ after_drop v.bus k l → AreSwept w l n m v.locals locals → AreSized w c (with_line v locals b v.slots v.acks)
sized_leave w c k l n m v b locals sized b_is are = subst (λ y. AreSized w c (with_line v locals y v.slots v.acks)) (sym b_is) (sized_bus w c v locals (only k) l (left_by k (holding_at v.bus l)) sized (swept_sizes w l n m v.locals locals are))

pub sized_give : (w : Config) (c l n : ℕ) (v : PartsView) (b : BusView) (locals : List Local) → AreSized w c v → b ≡ after_clear v.bus l → AreSwept w l n 0 v.locals locals → AreSized w c (with_line v locals b v.slots v.acks)
sized_give w c l n v b locals sized b_is are = subst (λ y. AreSized w c (with_line v locals y v.slots v.acks)) (sym b_is) (sized_bus w c v locals everybody l None sized (swept_sizes w l n 0 v.locals locals are))

-- the event of either way is the one that the code makes
pub event_is : (w : Config) (c k : ℕ) (l : LineId) (e : Kind) (old new : PartsView) (sent : List Sent) → e ≡ event_of w c k l → DoesChoice w c (Evict k l) (event_of w c k l) old new sent → DoesChoice w c (Evict k l) e old new sent
event_is w c k l e old new sent same does = subst (λ x. DoesChoice w c (Evict k l) x old new sent) (sym same) does
