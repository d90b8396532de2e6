-- One hart of a cluster: its number in the machine, and what the part has of it.
use Rattle.std.proofs.Common.{◌≡◌, ℕ, ◌<◌, Some, List, [], ◌∷◌, drop, length, slice_get, slice_index_or, sym, ap, ◌∙◌, subst}
use Rattle.std.proofs.lemmas.List.{get_or_default}
use Rattle.std.proofs.lemmas.Nat.{div-mul-add}
use Rattle.dash_model.specs.Config.{Config, cluster_of}
use Rattle.dash_model.specs.Part.{Part}
use Rattle.unit_rows.specs.declared.parts.Local.{Local}
use Rattle.unit_rows.specs.Shown.{PartsView, hart_at, ShowsHart, Shows, AreSized}

-- a hart's cluster
pub cluster_is : (w : Config) (c k : ℕ) → k < w.top.harts → cluster_of w (hart_at w c k) ≡ c
cluster_is w c k low = div-mul-add c w.top.harts k low

-- the hart that the code reads is the one that the part shows
pub shown_hart : (w : Config) (c : ℕ) (v : PartsView) (p : Part) (k : ℕ) (x : Local) → k < w.top.harts → AreSized w c v → Shows w c v p → x ≡ slice_index_or v.locals k x → ShowsHart w v.bus k x (p.harts (hart_at w c k))
shown_hart w c v p k x low sized shows here = subst (λ y. ShowsHart w v.bus k y (p.harts (hart_at w c k))) (sym here) (shows.harts k x low)

-- two reads of one place are the same
pub one_local : (xs : List Local) (k : ℕ) (x y : Local) → k < length xs → x ≡ slice_index_or xs k x → y ≡ slice_index_or xs k y → x ≡ y
one_local xs k x y inside here there = here ∙ get_or_default xs k x y inside ∙ sym there

-- a list by its first element
pub head_of : {X : Type 0} (xs : List X) (x : X) → slice_get xs 0 ≡ Some x → xs ≡ x ∷ drop 1 xs
head_of [] x e = absurd (cc)
head_of (y ∷ ys) x e = let same : y ≡ x = cc in ap (λ z. z ∷ ys) same
