-- Where each hart's caches change by its share of one new holding, the bus changes by that holding,
-- and the arrays of all harts stay one map.
use Rattle.std.proofs.Common.{◌≡◌, ℕ, ◌<◌, ◌%◌, Bool, true, false, cond, not, ◌&&◌, List, [], ◌∷◌, length, get_or, Option, Some, None, is_some, refl, sym, ap, ◌∙◌, arith, subst}
use Rattle.std.specs.Prelude.{◌==◌}
use Rattle.std.specs.FinSet as fs
use Rattle.std.specs.FinSet.{contains}
use Rattle.std.proofs.lemmas.List.{get_or-map, length-map}
use Rattle.cache_array.specs.View.{has_line, HasRoom, IsOnePerIndex}
use Rattle.cache_levels.specs.View.{in_l1, IsPartOfL2}
use Rattle.snoop_bus.specs.Caches.{CachesView, owns}
use Rattle.snoop_bus.specs.Holding.{Holding, has_hart, holders_in, IsProper}
use Rattle.snoop_bus.specs.View.{harts, holding_at, is_holder, in_hart_l1, changed, HasHartRoom, IsOneMap}
use Rattle.snoop_bus.specs.Shared.{hart_copy, gathered, first_l1_lines, first_l2_lines, bus_of, share_of_copy, share_of_owner, IsSpread, AreOneMap}
use Rattle.snoop_bus.specs.Changes.{EachBecomes}
use Rattle.snoop_bus.proofs.Bits.{has_hart-zero}
use Rattle.snoop_bus.proofs.Gathered.{any_caches, gather}
use Rattle.snoop_bus.proofs.Table.{holding_at-bus_of}
use Rattle.snoop_bus.proofs.BusLines.{holding_at-changed, in_hart_l1-changed, harts-changed, l1_lines-changed, l2_lines-changed, same_bus}

-- what one hart's caches become, by its share of a new holding of a line
pub record HartBecomes (p : ℕ → Bool) (line : ℕ) (o : Option Holding) (hart : ℕ) (x y : CachesView) : Type 0 where
  pub l1_lines : y.levels.l1_lines ≡ x.levels.l1_lines
  pub l2_lines : y.levels.l2.lines ≡ x.levels.l2.lines
  pub copies : (q : ℕ) → hart_copy y q ≡ cond (q == line) (share_of_copy o hart) (hart_copy x q)
  pub owners : (q : ℕ) → owns y q ≡ cond (q == line) (share_of_owner o hart) (owns x q)
  pub l1 : (q : ℕ) → in_l1 y.levels q ≡ (not (p hart && (q == line)) && in_l1 x.levels q)
  pub one : IsOnePerIndex y.levels.l2
  pub part : IsPartOfL2 y.levels

-- the bus of harts, read at any hart and line
pub harts-bus_of : (hs : List CachesView) → harts (bus_of hs) ≡ length hs
unfolding bus_of
harts-bus_of hs = length-map hs (λ h. h.levels.l1)

pub l1_lines-bus_of : (hs : List CachesView) → (bus_of hs).l1_lines ≡ first_l1_lines hs
unfolding bus_of
l1_lines-bus_of hs = refl

pub l2_lines-bus_of : (hs : List CachesView) → (bus_of hs).l2_lines ≡ first_l2_lines hs
unfolding bus_of
l2_lines-bus_of hs = refl

pub in_hart_l1-bus_of : (hs : List CachesView) (h q : ℕ) → h < length hs → in_hart_l1 (bus_of hs) h q ≡ in_l1 (get_or hs h any_caches).levels q
unfolding in_hart_l1 in_l1 bus_of
in_hart_l1-bus_of hs h q low = ap (λ s. contains s q) (get_or-map (λ (x : CachesView). x.levels.l1) hs h any_caches fs.empty low)

held_share : (o : Option Holding) (h : ℕ) → is_some (share_of_copy o h) ≡ has_hart (holders_in o) h
held_share None h = sym (has_hart-zero h)
held_share (Some x) h = elim (has_hart x.holders h) as (λ b. is_some (cond b (Some x.copy) None) ≡ b) [ true ↦ refl | false ↦ refl ]

pub is_holder-bus_of : (hs : List CachesView) (h q : ℕ) → AreOneMap hs → h < length hs → is_holder (bus_of hs) h q ≡ has_line (get_or hs h any_caches).levels.l2 q
is_holder-bus_of hs h q one low =
    ap (λ o. has_hart (holders_in o) h) (holding_at-bus_of hs q) ∙ sym (held_share (gathered hs q) h) ∙ sym (ap is_some ((one.spread q).copies h any_caches low))

-- the sizes stay
pub first_l1_same : (f : ℕ → CachesView → CachesView) (hs new : List CachesView) → EachBecomes f hs new → ((h : ℕ) (d : CachesView) → h < length hs → (f h (get_or hs h d)).levels.l1_lines ≡ (get_or hs h d).levels.l1_lines) → first_l1_lines new ≡ first_l1_lines hs
first_l1_same f [] [] e same = refl
first_l1_same f [] (y ∷ ys) e same = absurd (omega (arith, e.as_many))
first_l1_same f (x ∷ xs) [] e same = absurd (omega (arith, e.as_many))
first_l1_same f (x ∷ xs) (y ∷ ys) e same =
    ap (λ (h : CachesView). h.levels.l1_lines) (e.each 0 x (omega arith)) ∙ same 0 x (omega arith)

pub first_l2_same : (f : ℕ → CachesView → CachesView) (hs new : List CachesView) → EachBecomes f hs new → ((h : ℕ) (d : CachesView) → h < length hs → (f h (get_or hs h d)).levels.l2.lines ≡ (get_or hs h d).levels.l2.lines) → first_l2_lines new ≡ first_l2_lines hs
first_l2_same f [] [] e same = refl
first_l2_same f [] (y ∷ ys) e same = absurd (omega (arith, e.as_many))
first_l2_same f (x ∷ xs) [] e same = absurd (omega (arith, e.as_many))
first_l2_same f (x ∷ xs) (y ∷ ys) e same =
    ap (λ (h : CachesView). h.levels.l2.lines) (e.each 0 x (omega arith)) ∙ same 0 x (omega arith)

module _ (hs new : List CachesView) (f : ℕ → CachesView → CachesView) (p : ℕ → Bool) (line : ℕ) (o : Option Holding) (one : AreOneMap hs) (e : EachBecomes f hs new) (proper : IsProper (length hs) o) (each : (h : ℕ) (d : CachesView) → h < length hs → HartBecomes p line o h (get_or hs h d) (f h (get_or hs h d))) where
  at : (h : ℕ) (d : CachesView) → h < length hs → HartBecomes p line o h (get_or hs h d) (get_or new h d)
  at h d low = subst (λ y. HartBecomes p line o h (get_or hs h d) y) (sym (e.each h d low)) (each h d low)

  low_of : (h : ℕ) → h < length new → h < length hs
  low_of h low = omega (arith, e.as_many)

  spread : (q : ℕ) (b : Bool) → (q == line) ≡ b → IsSpread new q (cond b o (gathered hs q))
  spread q true is = record {
    proper = subst (λ n. IsProper n o) (sym e.as_many) proper;
    copies = λ h d low. (at h d (low_of h low)).copies q ∙ ap (λ t. cond t (share_of_copy o h) (hart_copy (get_or hs h d) q)) is;
    owners = λ h d low. (at h d (low_of h low)).owners q ∙ ap (λ t. cond t (share_of_owner o h) (owns (get_or hs h d) q)) is;
  }
  spread q false is = record {
    proper = subst (λ n. IsProper n (gathered hs q)) (sym e.as_many) (one.spread q).proper;
    copies = λ h d low. (at h d (low_of h low)).copies q ∙ ap (λ t. cond t (share_of_copy o h) (hart_copy (get_or hs h d) q)) is ∙ (one.spread q).copies h d (low_of h low);
    owners = λ h d low. (at h d (low_of h low)).owners q ∙ ap (λ t. cond t (share_of_owner o h) (owns (get_or hs h d) q)) is ∙ (one.spread q).owners h d (low_of h low);
  }

  gathered_new : (q : ℕ) → gathered new q ≡ cond (q == line) o (gathered hs q)
  gathered_new q = gather new q _ (spread q (q == line) refl)

  l1_same : first_l1_lines new ≡ first_l1_lines hs
  l1_same = first_l1_same f hs new e (λ h d low. (each h d low).l1_lines)

  l2_same : first_l2_lines new ≡ first_l2_lines hs
  l2_same = first_l2_same f hs new e (λ h d low. (each h d low).l2_lines)

  pub stays_one_map : AreOneMap new
  stays_one_map = record {
    few = omega (arith, one.few, e.as_many);
    each = λ h d low. let old = one.each h d (low_of h low) in let here = at h d (low_of h low) in record {
      l1_is = here.l1_lines ∙ old.l1_is ∙ sym l1_same;
      l2_is = here.l2_lines ∙ old.l2_is ∙ sym l2_same;
      one = here.one;
      part = here.part;
    };
    spread = λ q. subst (λ g. IsSpread new q g) (sym (gathered_new q)) (spread q (q == line) refl);
  }

  pub becomes_changed : bus_of new ≡ changed (bus_of hs) p line o
  becomes_changed =
      same_bus _ _
      (l1_lines-bus_of new ∙ l1_same ∙ sym (l1_lines-changed (bus_of hs) p line o ∙ l1_lines-bus_of hs))
      (l2_lines-bus_of new ∙ l2_same ∙ sym (l2_lines-changed (bus_of hs) p line o ∙ l2_lines-bus_of hs))
      (harts-bus_of new ∙ e.as_many ∙ sym (harts-changed (bus_of hs) p line o ∙ harts-bus_of hs))
      (λ q. holding_at-bus_of new q ∙ gathered_new q ∙ sym (holding_at-changed (bus_of hs) p line o q ∙ ap (cond (q == line) o) (holding_at-bus_of hs q)))
      (λ h q low. let many = harts-bus_of new in let l : h < length hs = omega (arith, e.as_many, many) in
      in_hart_l1-bus_of new h q (omega (arith, many))
      ∙ (at h any_caches l).l1 q
      ∙ sym (in_hart_l1-changed (bus_of hs) p line o h q ∙ ap (λ t. not (p h && (q == line)) && t) (in_hart_l1-bus_of hs h q l)))

-- the bus is one map, and a hart's room and other line are those of its L2
l2_of : (hs : List CachesView) (h : ℕ) → AreOneMap hs → h < length hs → (get_or hs h any_caches).levels.l2.lines ≡ (bus_of hs).l2_lines
l2_of hs h one low = (one.each h any_caches low).l2_is ∙ sym (l2_lines-bus_of hs)

pub room_of_bus : (hs : List CachesView) (h line : ℕ) → AreOneMap hs → h < length hs → HasHartRoom (bus_of hs) h line → HasRoom (get_or hs h any_caches).levels.l2 line
room_of_bus hs h line one low room = record {
  alone = λ q held same.
      room.alone q (is_holder-bus_of hs h q one low ∙ held) (ap (λ n. q % n) (sym (l2_of hs h one low)) ∙ same ∙ ap (λ n. line % n) (l2_of hs h one low));
}

pub room_of_hart : (hs : List CachesView) (h line : ℕ) → AreOneMap hs → h < length hs → HasRoom (get_or hs h any_caches).levels.l2 line → HasHartRoom (bus_of hs) h line
room_of_hart hs h line one low room = record {
  alone = λ q held same.
      room.alone q (sym (is_holder-bus_of hs h q one low) ∙ held) (ap (λ n. q % n) (l2_of hs h one low) ∙ same ∙ ap (λ n. line % n) (sym (l2_of hs h one low)));
}

pub is_one_map : (hs : List CachesView) → AreOneMap hs → IsOneMap (bus_of hs)
is_one_map hs one = record {
  lines = λ q. subst (λ n. IsProper n (holding_at (bus_of hs) q)) (sym (harts-bus_of hs)) (subst (λ o. IsProper (length hs) o) (sym (holding_at-bus_of hs q)) (one.spread q).proper);
  indexes = λ h q low held. let l = low_hart hs h low in room_of_hart hs h q one l ((one.each h any_caches l).one.one q (sym (is_holder-bus_of hs h q one l) ∙ held));
  l1 = λ h q low near. let l = low_hart hs h low in is_holder-bus_of hs h q one l ∙ (one.each h any_caches l).part.within q (sym (in_hart_l1-bus_of hs h q l) ∙ near);
}
  where
    low_hart : (hs : List CachesView) (h : ℕ) → h < harts (bus_of hs) → h < length hs
    low_hart hs h low = omega (arith, harts-bus_of hs)
