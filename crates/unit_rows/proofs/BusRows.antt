-- BusRead and BusOwn: where the code's parts let a hart get a line from its cluster, they do the event's row.
use Rattle.std.proofs.Common.{◌≡◌, ◌≢◌, ℕ, ◌<◌, ◌==◌, ◌||◌, Bool, true, false, not, Option, None, Some, is_some, List, [], refl, sym, ap, ◌∙◌, subst}
use Rattle.dash_base.specs.declared.id.HartId.{HartId}
use Rattle.dash_base.specs.declared.id.LineId.{LineId}
use Rattle.snoop_bus.specs.Holding.{Holding, has_hart, alone, holders_in, owner_in, copy_in, joined_by, owned_by}
use Rattle.snoop_bus.specs.View.{BusView, holding_at, holders_at, owner_at, nobody, all_but, changed, after_bus_read, after_bus_own, IsOneMap}
use Rattle.snoop_bus.proofs.LawsOffered.{has_hart-alone, has_hart-with_hart}
use Rattle.dash_event.specs.declared.event.Kind.TheVariants as kind
use Rattle.dash_model.specs.Config.{Config, hart_id, line_id, home_of}
use Rattle.dash_model.specs.Part.{Part}
use Rattle.dash_model.specs.LineEffect.{has_copy, has_owner}
use Rattle.dash_model.specs.LineGuards.{BusOwnFits as InTable}
use Rattle.dash_model.specs.Guard.{Guard}
use Rattle.dash_model.specs.Row.{row}
use Rattle.dash_model.specs.Acts.{BusRead as Joins, BusOwn as Takes, act_row, bus_read, bus_own}
use Rattle.unit_rows.specs.declared.parts.Local.{Local}
use Rattle.unit_rows.specs.declared.choice.Choice.TheVariants.{BusRead, BusOwn}
use Rattle.unit_rows.specs.Shown.{PartsView, hart_at, copy_by, Shows, AreSized}
use Rattle.unit_rows.specs.Rows.{Happens, DoesChoice}
use Rattle.unit_rows.specs.Sweeps.{AreSwept}
use Rattle.unit_rows.specs.BusFits.{BusReadFits, BusOwnFits}
use Rattle.unit_rows.proofs.Copies.{has-copy_by, has_owner-copy_by}
use Rattle.unit_rows.proofs.Lines.{shows_line}
use Rattle.unit_rows.proofs.Swept.{Leaves, harts_stay, harts_swept}
use Rattle.unit_rows.proofs.BusTurns.{joined-copy_by, owned-copy_by, copy_here, with_line, bus_turns}
use Rattle.unit_rows.proofs.OneHart.{cluster_is}
use Rattle.unit_rows.proofs.RoomOn.{room_table}
use Rattle.unit_rows.proofs.Sized.{same_sizes, swept_sizes, sized_bus}
use Rattle.unit_rows.proofs.NoInstruction.{no_instruction}

pub there : {A : Type 0} (o : Option A) → o ≢ None → is_some o ≡ true
there None n = absurd (n refl)
there (Some x) n = refl

or_true : (a b : Bool) → b ≡ true → a || b ≡ true
or_true true b e = refl
or_true false b e = e

-- a holder more: none leaves
joined_keeps : (k : ℕ) (o : Option Holding) (j : ℕ) → has_hart (holders_in o) j ≡ true → has_hart (holders_in (joined_by k o)) j ≡ true
joined_keeps k None j has = has
joined_keeps k (Some h) j has = has_hart-with_hart h.holders k j ∙ or_true (j == k) (has_hart h.holders j) has

joined_leave : (w : Config) (b : BusView) (k l : ℕ) → Leaves w b l (joined_by k (holding_at b l)) nobody
joined_leave w b k l = record {
  lost = λ j low has has_not. absurd (let t : has_hart (holders_in (joined_by k (holding_at b l))) j ≡ true = joined_keeps k (holding_at b l) j has in cc);
  stays = λ j low has. refl;
}

-- one holder alone: all others leave
pub alone_leave : (w : Config) (b : BusView) (k l : ℕ) (o : Option Holding) → holders_in o ≡ alone k → Leaves w b l o (all_but k)
alone_leave w b k l o is = record {
  lost = λ j low has has_not. ap not (sym (has_hart-alone k j) ∙ sym (ap (λ n. has_hart n j) is) ∙ has_not);
  stays = λ j low has. ap not (sym (has_hart-alone k j) ∙ sym (ap (λ n. has_hart n j) is) ∙ has);
}

pub owned_alone : (k : ℕ) (o : Option Holding) → is_some (owner_in o) ≡ true → holders_in (owned_by k o) ≡ alone k
owned_alone k None e = absurd (cc)
owned_alone k (Some h) e = refl

-- BusRead
read_shown : (w : Config) (c k l : ℕ) (v : PartsView) (p : Part) → k < w.top.harts → AreSized w c v → IsOneMap v.bus → BusReadFits w c v k l → Shows w c v p
    → Happens w c (kind.BusRead (hart_id (hart_at w c k)) (line_id l)) (no_instruction w) (with_line v v.locals (after_bus_read v.bus k l) v.slots v.acks) [] p
unfolding Guard row
read_shown w c k l v p low sized map f shows =
    let o = joined_by k (holding_at v.bus l) in
    let copy : bus_read (hart_at w c k) (p.cells l).copy ≡ copy_by w c o = ap (bus_read (hart_at w c k)) (shows.copies l) ∙ joined-copy_by w c k (holding_at v.bus l) low in
    let d = act_row (line_id l) (home_of w l) (Joins (hart_at w c k)) (p.cells l) (p.homes l) in
    record {
      guard = record {
        mine = cluster_is w c k low;
        need = f.needs p shows;
        copy = ap has_copy (shows.copies l) ∙ has-copy_by w c (holding_at v.bus l) ∙ held_some (holding_at v.bus l) f.copy;
        room = room_table w c v p k l low sized shows f.room;
      };
      shows = shows_line w c v (with_line v v.locals (after_bus_read v.bus k l) v.slots v.acks) p l d shows
          (bus_turns w c v p l d nobody o v.locals shows
          (harts_stay w c v p l nobody o (bus_read (hart_at w c k) (p.cells l).copy) sized.locals sized.bus_harts map shows (joined_leave w v.bus k l) copy (λ j below has. joined_keeps k (holding_at v.bus l) j has))
          copy refl refl refl);
      sent_is = refl;
    }
  where
    held_some : (o : Option Holding) → copy_in o ≢ None → is_some o ≡ true
    held_some None n = absurd (n refl)
    held_some (Some h) n = refl

pub reads_from_bus : (w : Config) (c k : ℕ) (v : PartsView) (h : HartId) (l : LineId) (b : BusView) → k < w.top.harts → AreSized w c v → IsOneMap v.bus → BusReadFits w c v k l.0 → h ≡ hart_id (hart_at w c k) → b ≡ after_bus_read v.bus k l.0
    → DoesChoice w c (BusRead k l) (kind.BusRead h l) v (with_line v v.locals b v.slots v.acks) []
reads_from_bus w c k v h l b low sized map f h_is b_is =
    rw (b_is, h_is)
    (let base : DoesChoice w c (BusRead k l) (kind.BusRead (hart_id (hart_at w c k)) l) v (with_line v v.locals (after_bus_read v.bus k l.0) v.slots v.acks) [] =
    record { is_of = (refl, refl); does = record { done = no_instruction w; happens = λ p shows. read_shown w c k l.0 v p low sized map f shows } } in base)

pub sized_read : (w : Config) (c k l : ℕ) (v : PartsView) (b : BusView) → AreSized w c v → b ≡ after_bus_read v.bus k l → AreSized w c (with_line v v.locals b v.slots v.acks)
sized_read w c k l v b sized b_is = subst (λ y. AreSized w c (with_line v v.locals y v.slots v.acks)) (sym b_is) (sized_bus w c v v.locals nobody l (joined_by k (holding_at v.bus l)) sized (same_sizes w v.locals))

-- BusOwn
pub own_fits : (w : Config) (c k l : ℕ) (v : PartsView) (p : Part) → k < w.top.harts → AreSized w c v → BusOwnFits w c v k l → Shows w c v p → InTable w c (hart_at w c k) l p
own_fits w c k l v p low sized f shows = record {
  mine = cluster_is w c k low;
  need = f.needs p shows;
  owner = ap has_owner (shows.copies l) ∙ has_owner-copy_by w c (holding_at v.bus l) ∙ there (owner_at v.bus l) f.owner;
  room = room_table w c v p k l low sized shows f.room;
}

own_shown : (w : Config) (c k l : ℕ) (v : PartsView) (locals : List Local) (p : Part) → k < w.top.harts → AreSized w c v → IsOneMap v.bus → BusOwnFits w c v k l → AreSwept w l (holders_at v.bus l) (holders_in (owned_by k (holding_at v.bus l))) v.locals locals → Shows w c v p
    → Happens w c (kind.BusOwn (hart_id (hart_at w c k)) (line_id l)) (no_instruction w) (with_line v locals (after_bus_own v.bus k l) v.slots v.acks) [] p
unfolding Guard row
own_shown w c k l v locals p low sized map f are shows =
    let o = owned_by k (holding_at v.bus l) in
    let owner : is_some (owner_at v.bus l) ≡ true = there (owner_at v.bus l) f.owner in
    let copy : bus_own (hart_at w c k) (p.cells l).copy ≡ copy_by w c o = ap (bus_own (hart_at w c k)) (shows.copies l) ∙ owned-copy_by w c k (holding_at v.bus l) low owner in
    let d = act_row (line_id l) (home_of w l) (Takes (hart_at w c k)) (p.cells l) (p.homes l) in
    record {
      guard = own_fits w c k l v p low sized f shows;
      shows = shows_line w c v (with_line v locals (after_bus_own v.bus k l) v.slots v.acks) p l d shows
          (bus_turns w c v p l d (all_but k) o locals shows
          (harts_swept w c v p l (all_but k) o (bus_own (hart_at w c k) (p.cells l).copy) locals sized.locals sized.bus_harts map shows (alone_leave w v.bus k l o (owned_alone k (holding_at v.bus l) owner)) copy are)
          copy refl refl refl);
      sent_is = refl;
    }

-- who was swept, by the holders that the bus told before and afterwards
pub swept_between : (w : Config) (l n m : ℕ) (b z : BusView) (passes : ℕ → Bool) (o : Option Holding) (old new : List Local) → z ≡ changed b passes l o → n ≡ holders_at b l → m ≡ holders_at z l → AreSwept w l n m old new → AreSwept w l (holders_at b l) (holders_in o) old new
swept_between w l n m b z passes o old new z_is n_is m_is are =
    subst (λ y. AreSwept w l y (holders_in o) old new) n_is (subst (λ y. AreSwept w l n y old new) (m_is ∙ ap (λ y. holders_at y l) z_is ∙ ap holders_in (copy_here b passes l o)) are)

pub owns_from_bus : (w : Config) (c k n m : ℕ) (v : PartsView) (h : HartId) (l : LineId) (b : BusView) (locals : List Local) → k < w.top.harts → AreSized w c v → IsOneMap v.bus → BusOwnFits w c v k l.0 → h ≡ hart_id (hart_at w c k) → b ≡ after_bus_own v.bus k l.0
    → n ≡ holders_at v.bus l.0 → m ≡ holders_at b l.0 → AreSwept w l.0 n m v.locals locals → DoesChoice w c (BusOwn k l) (kind.BusOwn h l) v (with_line v locals b v.slots v.acks) []
owns_from_bus w c k n m v h l b locals low sized map f h_is b_is n_is m_is are =
    let swept = swept_between w l.0 n m v.bus b (all_but k) (owned_by k (holding_at v.bus l.0)) v.locals locals b_is n_is m_is are in
    rw (b_is, h_is)
    (let base : DoesChoice w c (BusOwn k l) (kind.BusOwn (hart_id (hart_at w c k)) l) v (with_line v locals (after_bus_own v.bus k l.0) v.slots v.acks) [] =
    record { is_of = (refl, refl); does = record { done = no_instruction w; happens = λ p shows. own_shown w c k l.0 v locals p low sized map f swept shows } } in base)

pub sized_own : (w : Config) (c k l n m : ℕ) (v : PartsView) (b : BusView) (locals : List Local) → AreSized w c v → b ≡ after_bus_own v.bus k l → AreSwept w l n m v.locals locals → AreSized w c (with_line v locals b v.slots v.acks)
sized_own w c k l n m v b locals sized b_is are = subst (λ y. AreSized w c (with_line v locals y v.slots v.acks)) (sym b_is) (sized_bus w c v locals (all_but k) l (owned_by k (holding_at v.bus l)) sized (swept_sizes w l n m v.locals locals are))
