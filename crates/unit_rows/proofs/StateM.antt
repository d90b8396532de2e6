-- State M on a line: what the code tests of the bus is what the table says of the copy.
use Rattle.std.proofs.Common.{◌≡◌, ℕ, ◌<◌, ◌==◌, ◌&&◌, Bool, true, false, Option, None, Some, is_some, refl, sym, ap, ap₂, ◌∙◌, subst}
use Rattle.snoop_bus.specs.Holding.{Holding, alone, is_owner, holders_in, owner_in, IsProper}
use Rattle.snoop_bus.specs.View.{BusView, holding_at, holders_at, owner_at, harts as bus_harts, IsOneMap}
use Rattle.dash_model.specs.Config.{Config}
use Rattle.dash_model.specs.Part.{Part}
use Rattle.dash_model.specs.Words.{in_m}
use Rattle.unit_rows.specs.Shown.{PartsView, hart_at, copy_by, Shows}
use Rattle.snoop_bus.specs.View.{owns_alone}
use Rattle.unit_rows.proofs.Same.{test_same, is_same}
use Rattle.unit_rows.proofs.Copies.{in_m-alone, alone-in_m}

pub same_bool : (a b : Bool) → (a ≡ true → b ≡ true) → (b ≡ true → a ≡ true) → a ≡ b
same_bool true b f g = sym (f refl)
same_bool false true f g = g refl
same_bool false false f g = refl

both_left : (a b : Bool) → a && b ≡ true → a ≡ true
both_left true b e = refl
both_left false b e = absurd (cc)

both_right : (a b : Bool) → a && b ≡ true → b ≡ true
both_right true b e = e
both_right false b e = absurd (cc)

is_the_owner : (o : Option ℕ) (k : ℕ) → is_owner o k ≡ true → o ≡ Some k
is_the_owner None k e = absurd (cc)
is_the_owner (Some j) k e = ap Some (is_same j k e)

-- what the test tells of the bus
pub owner_alone : (b : BusView) (k l : ℕ) → owns_alone b k l ≡ true → owner_at b l ≡ Some k
owner_alone b k l e = is_the_owner (owner_at b l) k (both_left (is_owner (owner_at b l) k) (holders_at b l == alone k) e)

pub holders_alone : (b : BusView) (k l : ℕ) → owns_alone b k l ≡ true → holders_at b l ≡ alone k
holders_alone b k l e = is_same (holders_at b l) (alone k) (both_right (is_owner (owner_at b l) k) (holders_at b l == alone k) e)

pub has_owner_alone : (b : BusView) (k l : ℕ) → owns_alone b k l ≡ true → is_some (owner_at b l) ≡ true
has_owner_alone b k l e = ap is_some (owner_alone b k l e)

-- and of the copy
by_copy : (w : Config) (c k : ℕ) (o : Option Holding) → k < w.top.harts → IsProper w.top.harts o → in_m (hart_at w c k) (copy_by w c o) ≡ (is_owner (owner_in o) k && (holders_in o == alone k))
by_copy w c k None low proper = refl
by_copy w c k (Some h) low proper = same_bool (in_m (hart_at w c k) (copy_by w c (Some h))) (is_owner h.owner k && (h.holders == alone k))
    (λ e. let m = alone-in_m w c k h low proper e in ap₂ (λ i j. is_owner i k && (j == alone k)) m.0 m.1 ∙ ap₂ (λ i j. i && j) (test_same k) (test_same (alone k)))
    (λ e. in_m-alone w c k h low (is_the_owner h.owner k (both_left (is_owner h.owner k) (h.holders == alone k) e)) (is_same h.holders (alone k) (both_right (is_owner h.owner k) (h.holders == alone k) e)))

pub in_m-owns_alone : (w : Config) (c k l : ℕ) (v : PartsView) (p : Part) → k < w.top.harts → bus_harts v.bus ≡ w.top.harts → IsOneMap v.bus → Shows w c v p → in_m (hart_at w c k) (p.cells l).copy ≡ owns_alone v.bus k l
in_m-owns_alone w c k l v p low count map shows = ap (in_m (hart_at w c k)) (shows.copies l) ∙ by_copy w c k (holding_at v.bus l) low (subst (λ n. IsProper n (holding_at v.bus l)) count (map.lines l))
