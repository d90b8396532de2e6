-- A call changes one lock word, and with it how many wait: the laws of lock words, proved.
use Rattle.std.proofs.Common.{◌≡◌, ◌≢◌, ◌<◌, ◌≤◌, ℕ, ◌+◌, Bool, true, false, cond, List, [], ◌∷◌, length, drop, slice_get, Some, refl, sym, ap, ◌∙◌, arith, length-append, length-drop}
use Rattle.std.specs.Prelude.{◌==◌}
use Rattle.std.specs.FinMap.{get}
use Rattle.std.proofs.lemmas.Bool.Decides.{nat_tests}
use Rattle.queue_lock.specs.declared.waiter.Waiter.{Waiter}
use Rattle.queue_lock.specs.View.{Lock, LocksView, is_own, is_ready, lock_in, lock_at, with_lock, waiting_at, waiting}
use Rattle.queue_lock.specs.Steps.{asked, granted, freed, after_ask, after_grant, after_free}
use Rattle.queue_lock.specs.Laws.{CallsChangeOneWord, WaitersAreCounted}
use Rattle.queue_lock.proofs.Maps.{get-insert_nat}
use Rattle.queue_lock.proofs.Totals.{total_part, total_change}

pub lock_at-with_lock : (v : LocksView) (i j : ℕ) (l : Lock) → lock_at (with_lock v i l) j ≡ cond (j == i) l (lock_at v j)
unfolding lock_at with_lock
lock_at-with_lock v i j l = ap lock_in (get-insert_nat v.words i l j) ∙ either (j == i)
  where
    either : (b : Bool) → lock_in (cond b (Some l) (get v.words j)) ≡ cond b l (lock_in (get v.words j))
    either true = refl
    either false = refl

pub is_own-with_lock : (v : LocksView) (i j : ℕ) (l : Lock) → is_own (with_lock v i l) j ≡ is_own v j
unfolding with_lock
is_own-with_lock v i j l = refl

locks-with_lock : (v : LocksView) (i : ℕ) (l : Lock) → (with_lock v i l).locks ≡ v.locks
unfolding with_lock
locks-with_lock v i l = refl

chosen : (j i : ℕ) (l m : Lock) → j ≡ i → cond (j == i) l m ≡ l
chosen j i l m same = grind (arith, nat_tests)

passed : (j i : ℕ) (l m : Lock) → j ≢ i → cond (j == i) l m ≡ m
passed j i l m apart = grind (arith, nat_tests)

pub at_here : (v : LocksView) (i : ℕ) (l : Lock) → lock_at (with_lock v i l) i ≡ l
at_here v i l = lock_at-with_lock v i i l ∙ chosen i i l _ refl

pub at_others : (v : LocksView) (i j : ℕ) (l : Lock) → j ≢ i → lock_at (with_lock v i l) j ≡ lock_at v j
at_others v i j l apart = lock_at-with_lock v i j l ∙ passed j i l _ apart

pub calls_change_one_word : CallsChangeOneWord
calls_change_one_word = record { here = at_here; others = at_others; own = is_own-with_lock }

pub own_below : (v : LocksView) (i : ℕ) → is_own v i ≡ true → i < v.locks
own_below v i own = grind (arith, nat_tests, own)

counted_own : (v : LocksView) (i : ℕ) → is_own v i ≡ true → waiting_at v i ≡ length (lock_at v i).queue
counted_own v i own = ap (λ b. cond b (length (lock_at v i).queue) 0) own

-- another queue of a word of this home changes the number by as much
pub waiting-with_lock : (v : LocksView) (i : ℕ) (l : Lock) → is_own v i ≡ true → waiting (with_lock v i l) + length (lock_at v i).queue ≡ waiting v + length l.queue
unfolding with_lock
waiting-with_lock v i l own =
    let now = with_lock v i l in
    let change = total_change (waiting_at v) (waiting_at now) i v.locks (own_below v i own) (λ j apart. sym (ap (λ m. cond (is_own v j) (length m.queue) 0) (at_others v i j l apart))) in
    let was = counted_own v i own in
    let is : waiting_at now i ≡ length l.queue = counted_own now i own ∙ ap (λ (m : Lock). length m.queue) (at_here v i l) in
    omega (arith, change, was, is)

-- those that wait for one word are some of them
pub queue_within : (v : LocksView) (i : ℕ) → is_own v i ≡ true → length (lock_at v i).queue ≤ waiting v
queue_within v i own =
    let part = total_part (waiting_at v) i v.locks (own_below v i own) in
    let was = counted_own v i own in
    omega (arith, part, was)

pub waiting-ask : (v : LocksView) (i : ℕ) (w : Waiter) → is_own v i ≡ true → waiting (after_ask v i w) ≡ waiting v + 1
waiting-ask v i w own =
    let change = waiting-with_lock v i (asked w (lock_at v i)) own in
    let long = length-append (lock_at v i).queue (w ∷ []) in
    omega (arith, change, long)

pub ready_some : (l : Lock) → is_ready l ≡ true → 0 < length l.queue
ready_some l ready = grind (arith, nat_tests, ready)

pub waiting-grant : (v : LocksView) (i : ℕ) (w : Waiter) → is_own v i ≡ true → 0 < length (lock_at v i).queue → waiting (after_grant v i w) + 1 ≡ waiting v
waiting-grant v i w own some =
    let change = waiting-with_lock v i (granted w (lock_at v i)) own in
    let long = length-drop 1 (lock_at v i).queue in
    omega (arith, change, long)

pub waiting-free : (v : LocksView) (i : ℕ) → is_own v i ≡ true → waiting (after_free v i) ≡ waiting v
waiting-free v i own =
    let change = waiting-with_lock v i (freed (lock_at v i)) own in
    omega (arith, change)

pub waiters_are_counted : WaitersAreCounted
waiters_are_counted = record {
  ask = waiting-ask;
  grant = λ v i w own ready. waiting-grant v i w own (ready_some (lock_at v i) ready);
  free = waiting-free;
}

-- the first of a queue stands in front of the others
pub first_in_front : (queue : List Waiter) (w : Waiter) → slice_get queue 0 ≡ Some w → queue ≡ w ∷ drop 1 queue
first_in_front [] w is = absurd (cc)
first_in_front (x ∷ xs) w is = let same : x ≡ w = cc in ap (λ y. y ∷ xs) same
