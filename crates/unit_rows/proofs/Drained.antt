-- A hart is drained on the part exactly where its buffer is empty and the table owes it nothing.
use Rattle.std.proofs.Common.{◌≡◌, ℕ, ◌<◌, true, Option, None, Some, refl, sym, ap, ◌∙◌}
use Rattle.ack_counter.specs.View.{Counted, entry_at, owes, owes_if}
use Rattle.fence_release.specs.Conditions.{is_drained}
use Rattle.fence_release.proofs.LawsOffered.{drained_tells, drained_holds}
use Rattle.dash_model.specs.Config.{Config}
use Rattle.dash_model.specs.Part.{Part}
use Rattle.dash_model.specs.Words as model
use Rattle.dash_model.specs.HartGuards.{Drained}
use Rattle.unit_rows.specs.declared.parts.Local.{Local}
use Rattle.unit_rows.specs.Shown.{PartsView, hart_at, counted_by, acks_by, ShowsHart, Shows}
use Rattle.unit_rows.proofs.Copies.{member-harts_by}

owes_counted : (w : Config) (c k : ℕ) (e : Counted) (n : Option ℕ) → k < w.top.harts → model.owes (hart_at w c k) (counted_by w c e n) ≡ owes e k
owes_counted w c k e None low = member-harts_by w c k (owes e) low
owes_counted w c k e (Some n) low = member-harts_by w c k (owes e) low

-- what an entry owes to a hart
pub owes-acks_by : (w : Config) (c k : ℕ) (o : Option Counted) → k < w.top.harts → model.owes (hart_at w c k) (acks_by w c o) ≡ owes_if o k
owes-acks_by w c k None low = refl
owes-acks_by w c k (Some e) low = owes_counted w c k e e.expected low

owes_on : (w : Config) (c k l : ℕ) (v : PartsView) (p : Part) → k < w.top.harts → Shows w c v p → model.owes (hart_at w c k) (p.cells l).acks ≡ owes_if (entry_at v.acks l) k
owes_on w c k l v p low s = ap (model.owes (hart_at w c k)) (s.acks l) ∙ owes-acks_by w c k (entry_at v.acks l) low

pub drained_shown : (w : Config) (c k : ℕ) (v : PartsView) (x : Local) (p : Part) → k < w.top.harts → Shows w c v p → ShowsHart w v.bus k x (p.harts (hart_at w c k)) → is_drained k x.buffer v.acks ≡ true → Drained (hart_at w c k) p
drained_shown w c k v x p low s hart is =
    let d = drained_tells k x.buffer v.acks is in
    record { buffer = hart.buffer ∙ d.empty; unowed = λ l. owes_on w c k l v p low s ∙ d.unowed l }

pub drained_back : (w : Config) (c k : ℕ) (v : PartsView) (x : Local) (p : Part) → k < w.top.harts → Shows w c v p → ShowsHart w v.bus k x (p.harts (hart_at w c k)) → Drained (hart_at w c k) p → is_drained k x.buffer v.acks ≡ true
drained_back w c k v x p low s hart d =
    drained_holds k x.buffer v.acks (record { empty = sym hart.buffer ∙ d.buffer; unowed = λ l. sym (owes_on w c k l v p low s) ∙ d.unowed l })
