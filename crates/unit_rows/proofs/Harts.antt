-- One hart that changes: where the code's hart is what its row leaves, the parts show what the row makes.
use Rattle.std.proofs.Common.{◌≡◌, ℕ, ◌<◌, length, slice_index_or, slice_set, refl, sym, subst, inl, inr, arith}
use Rattle.std.proofs.lemmas.List.{get_or-set_same, get_or-set_other}
use Rattle.dash_model.specs.Config.{Config}
use Rattle.dash_model.specs.Part.{Processor, Part}
use Rattle.dash_model.specs.HartRows.{change}
use Rattle.unit_rows.specs.declared.parts.Local.{Local}
use Rattle.unit_rows.specs.Shown.{PartsView, hart_at, ShowsHart, Shows}
use Rattle.unit_rows.proofs.Same.{at_upd, same_or_not}

-- the parts with another hart of this number
abbrev pub with_local : PartsView → ℕ → Local → PartsView
with_local v k x = record v { locals = slice_set v.locals k x }

-- harts of a cluster with two numbers are two
pub one_number : (w : Config) (c j k : ℕ) → hart_at w c j ≡ hart_at w c k → j ≡ k
one_number w c j k e = omega arith

pub shows_change : (w : Config) (c : ℕ) (v : PartsView) (p : Part) (k : ℕ) (x : Local) (s : Processor) → k < w.top.harts → length v.locals ≡ w.top.harts → Shows w c v p → ShowsHart w v.bus k x s → Shows w c (with_local v k x) (change (hart_at w c k) s p)
shows_change w c v p k x s low count shows hart = record {
  harts = λ j d below. elim (same_or_not j k) [
    | inl e ↦ subst (λ y. ShowsHart w v.bus y (slice_index_or (slice_set v.locals k x) y d) ((change (hart_at w c k) s p).harts (hart_at w c y))) (sym e) (subst (λ y. ShowsHart w v.bus k y ((change (hart_at w c k) s p).harts (hart_at w c k))) (sym (get_or-set_same v.locals k x d (omega arith))) (at_upd (λ y. ShowsHart w v.bus k x y) p.harts (hart_at w c k) (hart_at w c k) s (λ i. hart) (λ n. absurd (n refl))))
    | inr o ↦ subst (λ y. ShowsHart w v.bus j y ((change (hart_at w c k) s p).harts (hart_at w c j))) (sym (get_or-set_other v.locals k j x d o)) (at_upd (λ y. ShowsHart w v.bus j (slice_index_or v.locals j d) y) p.harts (hart_at w c k) (hart_at w c j) s (λ i. absurd (o (one_number w c j k i))) (λ n. shows.harts j d below))
  ];
  copies = shows.copies;
  slots = shows.slots;
  acks = shows.acks;
  homes = shows.homes;
  locks = shows.locks;
}
