-- A row of one line: where the new parts have of the line what the row leaves, and all else is as it was, they show what the row makes.
use Rattle.std.proofs.Common.{◌≡◌, ◌≢◌, ℕ, ◌<◌, true, slice_index_or, sym, ap, ◌∙◌, subst}
use Rattle.snoop_bus.specs.View.{holding_at}
use Rattle.ack_counter.specs.View.{entry_at}
use Rattle.directory.specs.View.{is_home, kept_at}
use Rattle.queue_lock.specs.View.{is_own, lock_at}
use Rattle.dash_model.specs.Config.{Config}
use Rattle.dash_model.specs.Cell.{Cell, Home}
use Rattle.dash_model.specs.Part.{Part}
use Rattle.dash_model.specs.LineEffect.{LineEffect}
use Rattle.dash_model.specs.HartRows.{cleared_where_lost, on_line}
use Rattle.unit_rows.specs.declared.parts.Local.{Local}
use Rattle.unit_rows.specs.Shown.{PartsView, hart_at, copy_by, slot_on, acks_by, home_by, lock_by, ShowsHart, Shows}
use Rattle.unit_rows.proofs.Same.{at_upd}

-- the new parts have of line l what the row leaves of it; and of other lines what the old ones had
pub record Turns (w : Config) (c : ℕ) (v z : PartsView) (p : Part) (l : ℕ) (d : LineEffect) : Type 0 where
  pub harts : (k : ℕ) (x : Local) → k < w.top.harts → ShowsHart w z.bus k (slice_index_or z.locals k x) (cleared_where_lost w l (p.cells l).copy d.cell.copy (hart_at w c k) (p.harts (hart_at w c k)))
  pub copy : d.cell.copy ≡ copy_by w c (holding_at z.bus l)
  pub copies : (q : ℕ) → q ≢ l → holding_at z.bus q ≡ holding_at v.bus q
  pub slot : d.cell.slot ≡ slot_on w c z.slots l
  pub slots : (q : ℕ) → q ≢ l → slot_on w c z.slots q ≡ slot_on w c v.slots q
  pub acks : d.cell.acks ≡ acks_by w c (entry_at z.acks l)
  pub entries : (q : ℕ) → q ≢ l → entry_at z.acks q ≡ entry_at v.acks q
  pub home : is_home z.home l ≡ true → d.home ≡ home_by w (kept_at z.home l)
  pub own : (q : ℕ) → is_home z.home q ≡ is_home v.home q
  pub homes : (q : ℕ) → q ≢ l → kept_at z.home q ≡ kept_at v.home q
  pub locks : z.locks ≡ v.locks

pub shows_line : (w : Config) (c : ℕ) (v z : PartsView) (p : Part) (l : ℕ) (d : LineEffect) → Shows w c v p → Turns w c v z p l d → Shows w c z (on_line w l d p).part
shows_line w c v z p l d s t = record {
  harts = t.harts;
  copies = λ q. at_upd (λ (a : Cell). a.copy ≡ copy_by w c (holding_at z.bus q)) p.cells l q d.cell (λ i. t.copy ∙ ap (λ y. copy_by w c (holding_at z.bus y)) (sym i)) (λ n. s.copies q ∙ ap (copy_by w c) (sym (t.copies q n)));
  slots = λ q. at_upd (λ (a : Cell). a.slot ≡ slot_on w c z.slots q) p.cells l q d.cell (λ i. t.slot ∙ ap (slot_on w c z.slots) (sym i)) (λ n. s.slots q ∙ sym (t.slots q n));
  acks = λ q. at_upd (λ (a : Cell). a.acks ≡ acks_by w c (entry_at z.acks q)) p.cells l q d.cell (λ i. t.acks ∙ ap (λ y. acks_by w c (entry_at z.acks y)) (sym i)) (λ n. s.acks q ∙ ap (acks_by w c) (sym (t.entries q n)));
  homes = λ q own. at_upd (λ (a : Home). a ≡ home_by w (kept_at z.home q)) p.homes l q d.home (λ i. t.home (subst (λ y. is_home z.home y ≡ true) i own) ∙ ap (λ y. home_by w (kept_at z.home y)) (sym i)) (λ n. s.homes q (sym (t.own q) ∙ own) ∙ ap (home_by w) (sym (t.homes q n)));
  locks = λ i own. subst (λ y. is_own y i ≡ true → p.locks i ≡ lock_by (lock_at y i)) (sym t.locks) (s.locks i) own;
}
