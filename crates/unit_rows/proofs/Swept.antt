-- A change of who holds a line, seen at the harts: those who lose it are cleared, and the others are as they were.
use Rattle.std.proofs.Common.{◌≡◌, ℕ, ◌<◌, ◌%◌, ◌==◌, ◌&&◌, Bool, true, false, cond, not, Option, None, Some, List, length, slice_index_or, refl, sym, ap, ap₂, ◌∙◌, subst, inl, inr, arith}
use Rattle.std.proofs.lemmas.Bool.Decides.{nat_tests}
use Rattle.std.proofs.lemmas.List.{with_items_is}
use Rattle.std.specs.Prelude.{Vec}
use Rattle.std.specs.Vec.{with_items}
use Rattle.dash_base.specs.declared.id.WordAddr.{WordAddr}
use Rattle.snoop_bus.specs.Holding.{Holding, has_hart, holders_in}
use Rattle.snoop_bus.specs.View.{BusView, holding_at, holders_at, in_hart_l1, harts as bus_harts, changed, nobody, IsOneMap}
use Rattle.snoop_bus.proofs.LawsOffered.{in_hart_l1-changed}
use Rattle.dash_model.specs.Maps.{upd}
use Rattle.dash_model.specs.Config.{Config, line_at}
use Rattle.dash_model.specs.Cell.{Copy}
use Rattle.dash_model.specs.Part.{Processor, Part}
use Rattle.dash_model.specs.HartRows.{is_line, l1_without, unreserved, cleared, cleared_where_lost}
use Rattle.dash_model.specs.Words.{held_by}
use Rattle.unit_rows.specs.declared.parts.Local.{Local}
use Rattle.unit_rows.specs.Shown.{PartsView, hart_at, copy_by, reserved_by, ShowsHart, Shows}
use Rattle.unit_rows.specs.Sweeps.{unreserved_word, is_lost, swept, AreSwept}
use Rattle.unit_rows.proofs.Same.{same_or_not, test_same, test_differ}
use Rattle.unit_rows.proofs.Copies.{held-copy_by}

-- the reservation
reserved_if : (a : WordAddr) (b : Bool) → reserved_by (cond b None (Some a)) ≡ cond b None (Some a.0)
reserved_if a true = refl
reserved_if a false = refl

pub reserved_word : (w : Config) (l : ℕ) (r : Option WordAddr) → reserved_by (unreserved_word w l r) ≡ unreserved w l (reserved_by r)
reserved_word w l None = refl
reserved_word w l (Some a) = reserved_if a (line_at w a.0 == l)

-- the L1 without the line
one_line : (q l : ℕ) (o : Option ℕ) → is_line l o ≡ true → false ≡ (not (q == l) && is_line q o)
one_line q l None e = absurd (cc)
one_line q l (Some k) e = elim (same_or_not q l) [
  | inl s ↦ sym (ap (λ i. not i && (k == q)) (ap (λ y. y == l) s ∙ test_same l))
  | inr n ↦ let other : (k == q) ≡ false = grind (arith, nat_tests) in sym (ap₂ (λ i j. not i && j) (test_differ q l n) other)
]

lost_at : (f : ℕ → Option ℕ) (q l i j : ℕ) → (q ≡ l → i ≡ j) → (t : Bool) → is_line l (f j) ≡ t → is_line q (cond t (upd f j None) f i) ≡ (not (q == l) && is_line q (f i))
lost_at f q l i j one true e = elim (same_or_not i j) [
  | inl s ↦ ap (λ b. is_line q (cond b None (f i))) (ap (λ y. y == j) s ∙ test_same j) ∙ one_line q l (f i) (ap (λ y. is_line l (f y)) s ∙ e)
  | inr n ↦ ap (λ b. is_line q (cond b None (f i))) (test_differ i j n) ∙ sym (ap (λ b. not b && is_line q (f i)) (test_differ q l (λ s. n (one s))))
]
lost_at f q l i j one false e = elim (same_or_not q l) [
  | inl s ↦ ap₂ (λ y z. is_line y (f z)) s (one s) ∙ e ∙ sym (ap (λ b. not b && is_line q (f i)) (ap (λ y. y == l) s ∙ test_same l))
  | inr n ↦ sym (ap (λ b. not b && is_line q (f i)) (test_differ q l n))
]

lost_l1 : (w : Config) (l : ℕ) (f : ℕ → Option ℕ) (q : ℕ) → is_line q (l1_without w l f (q % w.top.l1)) ≡ (not (q == l) && is_line q (f (q % w.top.l1)))
lost_l1 w l f q = lost_at f q l (q % w.top.l1) (l % w.top.l1) (λ s. ap (λ y. y % w.top.l1) s) (is_line l (f (l % w.top.l1))) refl

still_there : (passes here there : Bool) → (passes ≡ true → here ≡ true → there ≡ false) → there ≡ (not (passes && here) && there)
still_there true true there e = e refl refl
still_there true false there e = refl
still_there false here there e = refl

-- one hart, which has lost the line or has not
abbrev pub cleared_if : Config → ℕ → Bool → Processor → Processor
cleared_if w l lost s = cond lost (cleared w l s) s

pub one_hart : (w : Config) (b : BusView) (passes : ℕ → Bool) (l : ℕ) (o : Option Holding) (k : ℕ) (x : Local) (s : Processor) (lost : Bool) → ShowsHart w b k x s → (lost ≡ true → passes k ≡ true) → (lost ≡ false → passes k ≡ true → in_hart_l1 b k l ≡ false) → ShowsHart w (changed b passes l o) k (swept w l lost x) (cleared_if w l lost s)
one_hart w b passes l o k x s true h goes stays = record {
  core = h.core;
  reserved = ap (unreserved w l) h.reserved ∙ sym (reserved_word w l x.reserved);
  buffer = h.buffer;
  asked = h.asked;
  l1 = λ q. lost_l1 w l s.l1 q ∙ ap (λ i. not (q == l) && i) (h.l1 q) ∙ sym (ap (λ i. not (i && (q == l)) && in_hart_l1 b k q) (goes refl)) ∙ sym (in_hart_l1-changed b passes l o k q);
}
one_hart w b passes l o k x s false h goes stays = record {
  core = h.core;
  reserved = h.reserved;
  buffer = h.buffer;
  asked = h.asked;
  l1 = λ q. h.l1 q ∙ still_there (passes k) (q == l) (in_hart_l1 b k q) (λ p t. let same : q ≡ l = grind (arith, nat_tests) in ap (in_hart_l1 b k) same ∙ stays refl p) ∙ sym (in_hart_l1-changed b passes l o k q);
}

-- the line leaves the L1 of each hart that loses it, and of no hart that holds it afterwards
pub record Leaves (w : Config) (b : BusView) (l : ℕ) (o : Option Holding) (passes : ℕ → Bool) : Type 0 where
  pub lost : (k : ℕ) → k < w.top.harts → has_hart (holders_at b l) k ≡ true → has_hart (holders_in o) k ≡ false → passes k ≡ true
  pub stays : (k : ℕ) → k < w.top.harts → has_hart (holders_in o) k ≡ true → passes k ≡ false

goes_by : (b a passes : Bool) → (b ≡ true → a ≡ false → passes ≡ true) → b && not a ≡ true → passes ≡ true
goes_by true false passes f e = f refl refl
goes_by true true passes f e = absurd (cc)
goes_by false a passes f e = absurd (cc)

stays_by : (b a passes near : Bool) → (a ≡ true → passes ≡ false) → (near ≡ true → b ≡ true) → b && not a ≡ false → passes ≡ true → near ≡ false
stays_by b true passes near f g e p = absurd (let t : passes ≡ false = f refl in cc)
stays_by true false passes near f g e p = absurd (cc)
stays_by false false passes true f g e p = absurd (let t : false ≡ true = g refl in cc)
stays_by false false passes false f g e p = refl

-- all harts, where some may lose the line
pub harts_swept : (w : Config) (c : ℕ) (v : PartsView) (p : Part) (l : ℕ) (passes : ℕ → Bool) (o : Option Holding) (next : Copy) (locals : List Local) → length v.locals ≡ w.top.harts → bus_harts v.bus ≡ w.top.harts → IsOneMap v.bus → Shows w c v p → Leaves w v.bus l o passes → next ≡ copy_by w c o → AreSwept w l (holders_at v.bus l) (holders_in o) v.locals locals
    → (k : ℕ) (x : Local) → k < w.top.harts → ShowsHart w (changed v.bus passes l o) k (slice_index_or locals k x) (cleared_where_lost w l (p.cells l).copy next (hart_at w c k) (p.harts (hart_at w c k)))
harts_swept w c v p l passes o next locals count bus_count map shows leaves next_is are k x low =
    let before : held_by (hart_at w c k) (p.cells l).copy ≡ has_hart (holders_at v.bus l) k = ap (held_by (hart_at w c k)) (shows.copies l) ∙ held-copy_by w c k (holding_at v.bus l) low in
    let after : held_by (hart_at w c k) next ≡ has_hart (holders_in o) k = ap (held_by (hart_at w c k)) next_is ∙ held-copy_by w c k o low in
    let lost : (held_by (hart_at w c k) (p.cells l).copy && not (held_by (hart_at w c k) next)) ≡ is_lost (holders_at v.bus l) (holders_in o) k = ap₂ (λ i j. i && not j) before after in
    let one = one_hart w v.bus passes l o k (slice_index_or v.locals k x) (p.harts (hart_at w c k)) (is_lost (holders_at v.bus l) (holders_in o) k) (shows.harts k x low)
    (goes_by (has_hart (holders_at v.bus l) k) (has_hart (holders_in o) k) (passes k) (leaves.lost k low))
    (stays_by (has_hart (holders_at v.bus l) k) (has_hart (holders_in o) k) (passes k) (in_hart_l1 v.bus k l) (leaves.stays k low) (map.l1 k l (subst (λ n. k < n) (sym bus_count) low))) in
    subst (λ y. ShowsHart w (changed v.bus passes l o) k y (cleared_where_lost w l (p.cells l).copy next (hart_at w c k) (p.harts (hart_at w c k)))) (sym (are.each k x (subst (λ n. k < n) (sym count) low)))
    (subst (λ y. ShowsHart w (changed v.bus passes l o) k (swept w l (is_lost (holders_at v.bus l) (holders_in o) k) (slice_index_or v.locals k x)) (cleared_if w l y (p.harts (hart_at w c k)))) (sym lost) one)

-- where no hart loses the line, the harts stay
not_lost : (b a : Bool) → (b ≡ true → a ≡ true) → b && not a ≡ false
not_lost true true f = refl
not_lost true false f = absurd (let t : false ≡ true = f refl in cc)
not_lost false a f = refl

pub none_swept : (w : Config) (l before after : ℕ) (xs : List Local) → ((k : ℕ) → k < length xs → has_hart before k ≡ true → has_hart after k ≡ true) → AreSwept w l before after xs xs
none_swept w l before after xs keeps = record {
  count = refl;
  each = λ k d low. sym (ap (λ b. swept w l b (slice_index_or xs k d)) (not_lost (has_hart before k) (has_hart after k) (keeps k low)));
}

pub harts_stay : (w : Config) (c : ℕ) (v : PartsView) (p : Part) (l : ℕ) (passes : ℕ → Bool) (o : Option Holding) (next : Copy) → length v.locals ≡ w.top.harts → bus_harts v.bus ≡ w.top.harts → IsOneMap v.bus → Shows w c v p → Leaves w v.bus l o passes → next ≡ copy_by w c o → ((k : ℕ) → k < w.top.harts → has_hart (holders_at v.bus l) k ≡ true → has_hart (holders_in o) k ≡ true)
    → (k : ℕ) (x : Local) → k < w.top.harts → ShowsHart w (changed v.bus passes l o) k (slice_index_or v.locals k x) (cleared_where_lost w l (p.cells l).copy next (hart_at w c k) (p.harts (hart_at w c k)))
harts_stay w c v p l passes o next count bus_count map shows leaves next_is keeps =
    harts_swept w c v p l passes o next v.locals count bus_count map shows leaves next_is (none_swept w l (holders_at v.bus l) (holders_in o) v.locals (λ k low. keeps k (subst (λ n. k < n) count low)))

-- where the bus stays and the copy too, so does each hart
pub unmoved : (w : Config) (l h : ℕ) (before next : Copy) (s : Processor) → next ≡ before → cleared_where_lost w l before next h s ≡ s
unmoved w l h before next s same = ap (λ y. cleared_where_lost w l before y h s) same ∙ ap (λ b. cleared_if w l b s) (not_lost (held_by h before) (held_by h before) (λ e. e))

-- where the holders stay, none leaves
pub none_leave : (w : Config) (b : BusView) (l : ℕ) (o : Option Holding) → holders_in o ≡ holders_at b l → Leaves w b l o nobody
none_leave w b l o same = record {
  lost = λ k low has has_not. absurd (let t : has_hart (holders_in o) k ≡ true = ap (λ n. has_hart n k) same ∙ has in cc);
  stays = λ k low has. refl;
}

-- a sweep of the harts that a vector lent
pub swept_back : {Z : Type 0} (w : Config) (l n m : ℕ) (v : Vec Local Z) (lent ws : List Local) → lent ≡ v.items → length lent ≡ v.len → AreSwept w l n m lent ws → AreSwept w l n m v.items (with_items v ws).items
swept_back w l n m v lent ws lent_is count are =
    subst (λ y. AreSwept w l n m v.items y) (sym (with_items_is v ws (are.count ∙ count))) (subst (λ y. AreSwept w l n m y ws) lent_is are)
