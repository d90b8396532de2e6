-- The table of what is gathered, read at any line.
use Rattle.std.proofs.Common.{◌≡◌, ℕ, Bool, true, false, cond, ◌||◌, List, [], ◌∷◌, Option, Some, None, is_some, refl, sym, ap, ◌∙◌, arith}
use Rattle.std.specs.Prelude.{◌==◌}
use Rattle.std.specs.List.{list_any}
use Rattle.std.specs.Ordering.{nat_cmp, eq_by_cmp}
use Rattle.std.specs.Cmp.{unsigned_tied}
use Rattle.std.specs.FinMap as fin
use Rattle.std.specs.FinMap.{FinMap, get}
use Rattle.std.proofs.lemmas.List.Folds.{list_any-append}
use Rattle.std.proofs.lemmas.Bool.Decides.{nat_tests}
use Rattle.cache_array.specs.View.{copy_at}
use Rattle.cache_array.proofs.LawsOffered.{get-empty_nat, get-insert_nat}
use Rattle.snoop_bus.specs.Caches.{CachesView}
use Rattle.snoop_bus.specs.Holding.{Holding}
use Rattle.snoop_bus.specs.View.{holding_at}
use Rattle.snoop_bus.specs.Shared.{gathered_copy, gathered, lines_of, put_some, table, bus_of}

-- whether a line is among these
abbrev among : ℕ → List ℕ → Bool
among q ks = list_any (eq_by_cmp nat_cmp q) ks

get-put_some : (m : FinMap nat_cmp Holding) (k : ℕ) (o : Option Holding) (q : ℕ) → get (put_some m k o) q ≡ cond (q == k) (cond (is_some o) o (get m q)) (get m q)
get-put_some m k None q = elim (q == k) as (λ b. get m q ≡ cond b (get m q) (get m q)) [ true ↦ refl | false ↦ refl ]
get-put_some m k (Some x) q = get-insert_nat m k x q

-- the value at one line more
picked : (b t : Bool) (x y r : Option Holding) → (b ≡ true → x ≡ y) → r ≡ cond t y None → cond b (cond (is_some x) x r) r ≡ cond (b || t) y None
picked true true None y r same rest = rest ∙ sym (same refl) ∙ same refl
picked true false None y r same rest = rest ∙ same refl
picked true t (Some x) y r same rest = same refl
picked false t x y r same rest = rest

pub get-table : (f : ℕ → Option Holding) (ks : List ℕ) (q : ℕ) → get (table f ks) q ≡ cond (among q ks) (f q) None
get-table f [] q = get-empty_nat q
get-table f (k ∷ ks) q =
    get-put_some (table f ks) k (f k) q
    ∙ picked (q == k) (among q ks) (f k) (f q) (get (table f ks) q) (λ e. let same : k ≡ q = grind (arith, nat_tests) in ap f same) (get-table f ks q)
    ∙ ap (λ b. cond (b || among q ks) (f q) None) (sym (unsigned_tied q k))

-- a line that no hart holds is not among them, and the others are
not_there : (hs : List CachesView) (q : ℕ) → among q (lines_of hs) ≡ false → gathered_copy hs q ≡ None
unfolding copy_at
not_there [] q e = refl
not_there (x ∷ hs) q e =
    let parts = sym (list_any-append (eq_by_cmp nat_cmp q) (fin.keys x.levels.l2.copies) (lines_of hs)) ∙ e in
    let here = fin.contains_key-keys x.levels.l2.copies q in
    grind (arith, parts, here, not_there hs q)

-- what is gathered of a line that no hart holds is none
gathered_lacking : (hs : List CachesView) (q : ℕ) → gathered_copy hs q ≡ None → gathered hs q ≡ None
unfolding gathered
gathered_lacking hs q e = grind arith

table_value : (hs : List CachesView) (q : ℕ) (b : Bool) → among q (lines_of hs) ≡ b → cond b (gathered hs q) None ≡ gathered hs q
table_value hs q true e = refl
table_value hs q false e = sym (gathered_lacking hs q (not_there hs q e))

pub holding_at-bus_of : (hs : List CachesView) (q : ℕ) → holding_at (bus_of hs) q ≡ gathered hs q
unfolding holding_at bus_of
holding_at-bus_of hs q = get-table (gathered hs) (lines_of hs) q ∙ table_value hs q _ refl
