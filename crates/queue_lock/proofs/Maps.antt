-- Finite maps whose keys are numbers, and the map of a list of lock words whose keys rise by a step.
use Rattle.std.proofs.Common.{◌≡◌, ◌≢◌, ◌<◌, ℕ, zero, suc, ◌+◌, ◌*◌, cond, List, [], ◌∷◌, length, set, Option, Some, None, option_map, slice_get, refl, sym, ap, ◌∙◌, arith}
use Rattle.std.specs.Prelude.{◌==◌}
use Rattle.std.specs.Ordering.{nat_cmp}
use Rattle.std.specs.Cmp.{nat_cmp_total, unsigned_tied}
use Rattle.std.specs.FinMap.{FinMap, get, insert, empty, get-insert, get-empty, same_map, nat_cmp-IsAntisymmetric}
use Rattle.std.proofs.lemmas.Bool.Decides.{nat_tests}
use Rattle.queue_lock.specs.declared.word.LockWord.{LockWord}
use Rattle.queue_lock.specs.View.{Lock}
use Rattle.queue_lock.specs.Kept.{lock_of, map_of}

pub get-insert_nat : {X : Type 0} (m : FinMap nat_cmp X) (k : ℕ) (v : X) (q : ℕ) → get (insert m k v) q ≡ cond (q == k) (Some v) (get m q)
get-insert_nat m k v q = get-insert nat_cmp_total m k v q ∙ ap (λ b. cond b (Some v) (get m q)) (unsigned_tied q k)

pub same_nat_map : {X : Type 0} (m n : FinMap nat_cmp X) → ((q : ℕ) → get m q ≡ get n q) → m ≡ n
same_nat_map m n same = same_map nat_cmp_total nat_cmp-IsAntisymmetric m n same

insert_twice : (m : FinMap nat_cmp Lock) (k j : ℕ) (v w : Lock) → j ≡ k → insert (insert m k v) j w ≡ insert m j w
insert_twice m k j v w same =
    same_nat_map _ _ (λ q. get-insert_nat (insert m k v) j w q ∙ ap (cond (q == j) (Some w)) (get-insert_nat m k v q) ∙ over q ∙ sym (get-insert_nat m j w q))
  where
    over : (q : ℕ) → cond (q == j) (Some w) (cond (q == k) (Some v) (get m q)) ≡ cond (q == j) (Some w) (get m q)
    over q = grind (arith, nat_tests)

insert_other : (m : FinMap nat_cmp Lock) (k j : ℕ) (v w : Lock) → j ≢ k → insert (insert m j w) k v ≡ insert (insert m k v) j w
insert_other m k j v w apart =
    same_nat_map _ _ (λ q.
    get-insert_nat (insert m j w) k v q ∙ ap (cond (q == k) (Some v)) (get-insert_nat m j w q) ∙ either q
    ∙ sym (get-insert_nat (insert m k v) j w q ∙ ap (cond (q == j) (Some w)) (get-insert_nat m k v q)))
  where
    either : (q : ℕ) → cond (q == k) (Some v) (cond (q == j) (Some w) (get m q)) ≡ cond (q == j) (Some w) (cond (q == k) (Some v) (get m q))
    either q = grind (arith, nat_tests)

map_of-cons : (step first : ℕ) (w : LockWord) (ws : List LockWord) → map_of step first (w ∷ ws) ≡ insert (map_of step (first + step) ws) first (lock_of w)
unfolding map_of
map_of-cons step first w ws = refl

map_of-nil : (step first : ℕ) → map_of step first [] ≡ empty
unfolding map_of
map_of-nil step first = refl

get-map_of-nil : (step first q : ℕ) → get (map_of step first []) q ≡ None
get-map_of-nil step first q = ap (λ (m : FinMap nat_cmp Lock). get m q) (map_of-nil step first) ∙ get-empty nat_cmp q

get-map_of-cons : (step first : ℕ) (w : LockWord) (ws : List LockWord) (q : ℕ) → get (map_of step first (w ∷ ws)) q ≡ cond (q == first) (Some (lock_of w)) (get (map_of step (first + step) ws) q)
get-map_of-cons step first w ws q = ap (λ (m : FinMap nat_cmp Lock). get m q) (map_of-cons step first w ws) ∙ get-insert_nat (map_of step (first + step) ws) first (lock_of w) q

here : (a b : ℕ) (x : Lock) (o : Option Lock) → a ≡ b → cond (a == b) (Some x) o ≡ Some x
here a b x o same = grind (arith, nat_tests)

elsewhere : (a b : ℕ) (x : Lock) (o : Option Lock) → a ≢ b → cond (a == b) (Some x) o ≡ o
elsewhere a b x o apart = grind (arith, nat_tests)

-- the lock word at a place of the list
pub get-map_of_place : (step first : ℕ) (ws : List LockWord) (i q : ℕ) → 0 < step → q ≡ i * step + first → get (map_of step first ws) q ≡ option_map lock_of (slice_get ws i)
get-map_of_place step first [] i q some is = get-map_of-nil step first q
get-map_of_place step first (w ∷ ws) zero q some is = get-map_of-cons step first w ws q ∙ here q first (lock_of w) _ (omega arith)
get-map_of_place step first (w ∷ ws) (suc i) q some is =
    let past : q ≢ first = grind arith in
    get-map_of-cons step first w ws q ∙ elsewhere q first (lock_of w) _ past ∙ get-map_of_place step (first + step) ws i q some (grind arith)

-- no lock word at a number that no place has
pub get-map_of_none : (step first : ℕ) (ws : List LockWord) (q : ℕ) → ((i : ℕ) → q ≢ i * step + first) → get (map_of step first ws) q ≡ None
get-map_of_none step first [] q none = get-map_of-nil step first q
get-map_of_none step first (w ∷ ws) q none =
    let past : q ≢ first = λ same. none 0 (omega arith) in
    get-map_of-cons step first w ws q ∙ elsewhere q first (lock_of w) _ past
    ∙ get-map_of_none step (first + step) ws q (λ i same. none (suc i) (grind arith))

-- a list with another lock word at a place
pub map_of-set : (step first : ℕ) (ws : List LockWord) (i q : ℕ) (w : LockWord) → 0 < step → i < length ws → q ≡ i * step + first → map_of step first (set ws i w) ≡ insert (map_of step first ws) q (lock_of w)
map_of-set step first [] i q w some low is = absurd (omega arith)
map_of-set step first (x ∷ ws) zero q w some low is =
    let same : q ≡ first = omega arith in
    map_of-cons step first w ws ∙ ap (λ n. insert (map_of step (first + step) ws) n (lock_of w)) (sym same)
    ∙ sym (insert_twice (map_of step (first + step) ws) first q (lock_of x) (lock_of w) same)
    ∙ ap (λ (m : FinMap nat_cmp Lock). insert m q (lock_of w)) (sym (map_of-cons step first x ws))
map_of-set step first (x ∷ ws) (suc i) q w some low is =
    let past : q ≢ first = grind arith in
    map_of-cons step first x (set ws i w)
    ∙ ap (λ (m : FinMap nat_cmp Lock). insert m first (lock_of x)) (map_of-set step (first + step) ws i q w some (omega arith) (grind arith))
    ∙ insert_other (map_of step (first + step) ws) first q (lock_of x) (lock_of w) past
    ∙ ap (λ (m : FinMap nat_cmp Lock). insert m q (lock_of w)) (sym (map_of-cons step first x ws))
