-- Each change of a bus, read at any line and hart; and buses that read alike are equal.
use Rattle.std.proofs.Common.{◌≡◌, ℕ, zero, suc, ◌+◌, ◌<◌, ◌%◌, Bool, true, false, cond, not, ◌&&◌, ◌||◌, List, [], ◌∷◌, length, replicate, get_or, Option, Some, None, refl, sym, ap, ◌∙◌, arith, length-set, zero-add, add-zero}
use Rattle.std.specs.Prelude.{◌==◌}
use Rattle.std.specs.Ordering.{nat_cmp}
use Rattle.std.specs.FinMap.{FinMap, get}
use Rattle.std.specs.FinSet as fs
use Rattle.std.specs.FinSet.{FinSet, contains, contains-empty, retain, remove}
use Rattle.std.proofs.lemmas.List.{ext_get_or, get_or-set_same, get_or-set_other, length-replicate}
use Rattle.std.proofs.lemmas.Bool.Decides.{nat_tests}
use Rattle.cache_array.proofs.LawsOffered.{get-empty_nat, get-insert_nat, get-remove_nat, same_nat_map}
use Rattle.cache_levels.proofs.LawsOffered.{contains-insert_nat, contains-remove_nat, contains-retain_nat, same_nat_set}
use Rattle.snoop_bus.specs.Holding.{Holding}
use Rattle.snoop_bus.specs.View.{BusView, harts, holding_at, is_holder, in_hart_l1, empty_bus, set_at, cleared_from, changed, hart_entered, after_hart_read}

get-set_at : (m : FinMap nat_cmp Holding) (l : ℕ) (o : Option Holding) (q : ℕ) → get (set_at m l o) q ≡ cond (q == l) o (get m q)
get-set_at m l None q = get-remove_nat m l q
get-set_at m l (Some h) q = get-insert_nat m l h q

pub holding_at-changed : (b : BusView) (p : ℕ → Bool) (l : ℕ) (o : Option Holding) (q : ℕ) → holding_at (changed b p l o) q ≡ cond (q == l) o (holding_at b q)
unfolding holding_at changed
holding_at-changed b p l o q = get-set_at b.copies l o q

contains-cleared_from : (from : ℕ) (p : ℕ → Bool) (l : ℕ) (ss : List (FinSet nat_cmp)) (k q : ℕ) → contains (get_or (cleared_from from p l ss) k fs.empty) q ≡ (not (p (from + k) && (q == l)) && contains (get_or ss k fs.empty) q)
contains-cleared_from from p l [] k q = none (p (from + k) && (q == l)) (contains fs.empty q) (contains-empty nat_cmp q)
  where
    none : (a b : Bool) → b ≡ false → b ≡ (not a && b)
    none true b e = e
    none false b e = refl
contains-cleared_from from p l (s ∷ ss) zero q =
    first (p from) ∙ ap (λ n. not (p n && (q == l)) && contains s q) (sym (add-zero from))
  where
    first : (b : Bool) → contains (cond b (remove s l) s) q ≡ (not (b && (q == l)) && contains s q)
    first true = contains-remove_nat s l q
    first false = refl
contains-cleared_from from p l (s ∷ ss) (suc k) q =
    let more : (from + 1) + k ≡ from + suc k = omega arith in
    contains-cleared_from (from + 1) p l ss k q ∙ ap (λ n. not (p n && (q == l)) && contains (get_or ss k fs.empty) q) more

pub in_hart_l1-changed : (b : BusView) (p : ℕ → Bool) (l : ℕ) (o : Option Holding) (h q : ℕ) → in_hart_l1 (changed b p l o) h q ≡ (not (p h && (q == l)) && in_hart_l1 b h q)
unfolding in_hart_l1 changed
in_hart_l1-changed b p l o h q = contains-cleared_from 0 p l b.l1 h q ∙ ap (λ n. not (p n && (q == l)) && contains (get_or b.l1 h fs.empty) q) (zero-add h)

length-cleared_from : (from : ℕ) (p : ℕ → Bool) (l : ℕ) (ss : List (FinSet nat_cmp)) → length (cleared_from from p l ss) ≡ length ss
length-cleared_from from p l [] = refl
length-cleared_from from p l (s ∷ ss) = ap suc (length-cleared_from (from + 1) p l ss)

pub harts-changed : (b : BusView) (p : ℕ → Bool) (l : ℕ) (o : Option Holding) → harts (changed b p l o) ≡ harts b
unfolding changed
harts-changed b p l o = length-cleared_from 0 p l b.l1

pub l1_lines-changed : (b : BusView) (p : ℕ → Bool) (l : ℕ) (o : Option Holding) → (changed b p l o).l1_lines ≡ b.l1_lines
unfolding changed
l1_lines-changed b p l o = refl

pub l2_lines-changed : (b : BusView) (p : ℕ → Bool) (l : ℕ) (o : Option Holding) → (changed b p l o).l2_lines ≡ b.l2_lines
unfolding changed
l2_lines-changed b p l o = refl

-- a new bus
pub holding_at-empty_bus : (n l1 l2 q : ℕ) → holding_at (empty_bus n l1 l2) q ≡ None
unfolding holding_at empty_bus
holding_at-empty_bus n l1 l2 q = get-empty_nat q

contains-none : (n k q : ℕ) → contains (get_or (replicate n (fs.empty {R = nat_cmp})) k fs.empty) q ≡ false
contains-none zero k q = contains-empty nat_cmp q
contains-none (suc n) zero q = contains-empty nat_cmp q
contains-none (suc n) (suc k) q = contains-none n k q

pub in_hart_l1-empty_bus : (n l1 l2 h q : ℕ) → in_hart_l1 (empty_bus n l1 l2) h q ≡ false
unfolding in_hart_l1 empty_bus
in_hart_l1-empty_bus n l1 l2 h q = contains-none n h q

pub harts-empty_bus : (n l1 l2 : ℕ) → harts (empty_bus n l1 l2) ≡ n
unfolding empty_bus
harts-empty_bus n l1 l2 = length-replicate n (fs.empty {R = nat_cmp})

pub l1_lines-empty_bus : (n l1 l2 : ℕ) → (empty_bus n l1 l2).l1_lines ≡ l1
unfolding empty_bus
l1_lines-empty_bus n l1 l2 = refl

pub l2_lines-empty_bus : (n l1 l2 : ℕ) → (empty_bus n l1 l2).l2_lines ≡ l2
unfolding empty_bus
l2_lines-empty_bus n l1 l2 = refl

-- a read
pub holding_at-hart_entered : (b : BusView) (h l q : ℕ) → holding_at (hart_entered b h l) q ≡ holding_at b q
unfolding holding_at hart_entered
holding_at-hart_entered b h l q = refl

pub harts-hart_entered : (b : BusView) (h l : ℕ) → harts (hart_entered b h l) ≡ harts b
unfolding hart_entered
harts-hart_entered b h l = length-set b.l1 h _

pub l1_lines-hart_entered : (b : BusView) (h l : ℕ) → (hart_entered b h l).l1_lines ≡ b.l1_lines
unfolding hart_entered
l1_lines-hart_entered b h l = refl

pub l2_lines-hart_entered : (b : BusView) (h l : ℕ) → (hart_entered b h l).l2_lines ≡ b.l2_lines
unfolding hart_entered
l2_lines-hart_entered b h l = refl

abbrev entered_set : FinSet nat_cmp → ℕ → ℕ → FinSet nat_cmp
entered_set s n l = fs.insert (retain s (λ other. not (other % n == l % n))) l

contains-entered_set : (s : FinSet nat_cmp) (n l q : ℕ) → contains (entered_set s n l) q ≡ ((q == l) || (contains s q && not (q % n == l % n)))
contains-entered_set s n l q =
    contains-insert_nat (retain s (λ other. not (other % n == l % n))) l q
    ∙ ap (λ b. (q == l) || b) (contains-retain_nat s (λ other. not (other % n == l % n)) q)

pub in_hart_l1-hart_entered : (b : BusView) (h l k q : ℕ) → h < harts b → in_hart_l1 (hart_entered b h l) k q ≡ cond (k == h) ((q == l) || (in_hart_l1 b k q && not (q % b.l1_lines == l % b.l1_lines))) (in_hart_l1 b k q)
unfolding in_hart_l1 hart_entered
in_hart_l1-hart_entered b h l k q low =
    let new = entered_set (get_or b.l1 h fs.empty) b.l1_lines l in
    grind (arith, nat_tests, get_or-set_same b.l1 h new fs.empty low, get_or-set_other b.l1 h k new fs.empty, contains-entered_set (get_or b.l1 h fs.empty) b.l1_lines l q)

abbrev enters : BusView → ℕ → ℕ → Bool
enters b h l = is_holder b h l && not (in_hart_l1 b h l)

pub holding_at-after_hart_read : (b : BusView) (h l q : ℕ) → holding_at (after_hart_read b h l) q ≡ holding_at b q
unfolding after_hart_read
holding_at-after_hart_read b h l q = elim (enters b h l) as (λ t. holding_at (cond t (hart_entered b h l) b) q ≡ holding_at b q) [ true ↦ holding_at-hart_entered b h l q | false ↦ refl ]

pub harts-after_hart_read : (b : BusView) (h l : ℕ) → harts (after_hart_read b h l) ≡ harts b
unfolding after_hart_read
harts-after_hart_read b h l = elim (enters b h l) as (λ t. harts (cond t (hart_entered b h l) b) ≡ harts b) [ true ↦ harts-hart_entered b h l | false ↦ refl ]

pub l1_lines-after_hart_read : (b : BusView) (h l : ℕ) → (after_hart_read b h l).l1_lines ≡ b.l1_lines
unfolding after_hart_read
l1_lines-after_hart_read b h l = elim (enters b h l) as (λ t. (cond t (hart_entered b h l) b).l1_lines ≡ b.l1_lines) [ true ↦ l1_lines-hart_entered b h l | false ↦ refl ]

pub l2_lines-after_hart_read : (b : BusView) (h l : ℕ) → (after_hart_read b h l).l2_lines ≡ b.l2_lines
unfolding after_hart_read
l2_lines-after_hart_read b h l = elim (enters b h l) as (λ t. (cond t (hart_entered b h l) b).l2_lines ≡ b.l2_lines) [ true ↦ l2_lines-hart_entered b h l | false ↦ refl ]

pub in_hart_l1-after_hart_read : (b : BusView) (h l k q : ℕ) → h < harts b → in_hart_l1 (after_hart_read b h l) k q ≡ cond ((k == h) && (is_holder b h l && not (in_hart_l1 b h l))) ((q == l) || (in_hart_l1 b k q && not (q % b.l1_lines == l % b.l1_lines))) (in_hart_l1 b k q)
unfolding after_hart_read
in_hart_l1-after_hart_read b h l k q low =
    elim (enters b h l) as (λ t. in_hart_l1 (cond t (hart_entered b h l) b) k q ≡ cond ((k == h) && t) ((q == l) || (in_hart_l1 b k q && not (q % b.l1_lines == l % b.l1_lines))) (in_hart_l1 b k q)) [
      | true ↦ in_hart_l1-hart_entered b h l k q low ∙ ap (λ t. cond t ((q == l) || (in_hart_l1 b k q && not (q % b.l1_lines == l % b.l1_lines))) (in_hart_l1 b k q)) (and-true (k == h))
      | false ↦ ap (λ t. cond t ((q == l) || (in_hart_l1 b k q && not (q % b.l1_lines == l % b.l1_lines))) (in_hart_l1 b k q)) (and-false (k == h))
    ]
  where
    and-true : (t : Bool) → t ≡ (t && true)
    and-true true = refl
    and-true false = refl

    and-false : (t : Bool) → false ≡ (t && false)
    and-false true = refl
    and-false false = refl

pub ruleset bus_reads = (holding_at-changed, in_hart_l1-changed, harts-changed, l1_lines-changed, l2_lines-changed, holding_at-empty_bus, in_hart_l1-empty_bus, harts-empty_bus, l1_lines-empty_bus, l2_lines-empty_bus, holding_at-after_hart_read, harts-after_hart_read, l1_lines-after_hart_read, l2_lines-after_hart_read, in_hart_l1-after_hart_read)

-- two buses of as many harts and indexes, with the same holding of each line and the same lines in each L1, are equal
pub same_bus : (a b : BusView) → a.l1_lines ≡ b.l1_lines → a.l2_lines ≡ b.l2_lines → harts a ≡ harts b → ((q : ℕ) → holding_at a q ≡ holding_at b q) → ((h q : ℕ) → h < harts a → in_hart_l1 a h q ≡ in_hart_l1 b h q) → a ≡ b
unfolding holding_at in_hart_l1
same_bus a b l1 l2 many copies near =
    let maps = same_nat_map a.copies b.copies copies in
    let sets = ext_get_or fs.empty a.l1 b.l1 many (λ h low. same_nat_set (get_or a.l1 h fs.empty) (get_or b.l1 h fs.empty) (λ q. near h q low)) in
    λ i. record { l1_lines = l1 i; l2_lines = l2 i; copies = maps i; l1 = sets i }
