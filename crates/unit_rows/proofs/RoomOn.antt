-- Room for a line: what the bus says is what the table says.
use Rattle.std.proofs.Common.{◌≡◌, ◌≢◌, ℕ, ◌<◌, ◌%◌, Bool, true, false, refl, sym, ap, ◌∙◌, subst, inl, inr}
use Rattle.snoop_bus.specs.View.{holding_at, is_holder, HasHartRoom}
use Rattle.dash_model.specs.Config.{Config}
use Rattle.dash_model.specs.Part.{Part}
use Rattle.dash_model.specs.Words.{held_by, Room}
use Rattle.unit_rows.specs.Shown.{PartsView, hart_at, Shows, AreSized}
use Rattle.unit_rows.proofs.Same.{same_or_not}
use Rattle.unit_rows.proofs.Copies.{held-copy_by}

pub held_is : (w : Config) (c : ℕ) (v : PartsView) (p : Part) (k q : ℕ) → k < w.top.harts → Shows w c v p → held_by (hart_at w c k) (p.cells q).copy ≡ is_holder v.bus k q
held_is w c v p k q low shows = ap (held_by (hart_at w c k)) (shows.copies q) ∙ held-copy_by w c k (holding_at v.bus q) low

not_true : (b : Bool) → (b ≡ true → ⊥) → b ≡ false
not_true true f = absurd (f refl)
not_true false f = refl

pub room_table : (w : Config) (c : ℕ) (v : PartsView) (p : Part) (k l : ℕ) → k < w.top.harts → AreSized w c v → Shows w c v p → HasHartRoom v.bus k l → Room w (hart_at w c k) l p
room_table w c v p k l low sized shows room q apart index =
    held_is w c v p k q low shows ∙ not_true (is_holder v.bus k q) (λ holds. apart (room.alone q holds (subst (λ n. q % n ≡ l % n) (sym sized.l2) index)))

by_same : (w : Config) (c : ℕ) (v : PartsView) (p : Part) (k l q : ℕ) → k < w.top.harts → AreSized w c v → Shows w c v p → Room w (hart_at w c k) l p → is_holder v.bus k q ≡ true → q % v.bus.l2_lines ≡ l % v.bus.l2_lines → q ≢ l → ⊥
by_same w c v p k l q low sized shows room holds index apart =
    let f : true ≡ false = sym holds ∙ sym (held_is w c v p k q low shows) ∙ room q apart (subst (λ n. q % n ≡ l % n) sized.l2 index) in absurd (cc)

pub room_code : (w : Config) (c : ℕ) (v : PartsView) (p : Part) (k l : ℕ) → k < w.top.harts → AreSized w c v → Shows w c v p → Room w (hart_at w c k) l p → HasHartRoom v.bus k l
room_code w c v p k l low sized shows room = record { alone = λ q holds index. elim (same_or_not q l) [ inl e ↦ e | inr n ↦ absurd (by_same w c v p k l q low sized shows room holds index n) ] }
