-- The lock words of a home, by their places in its list.
use Rattle.std.proofs.Common.{◌≡◌, ◌≢◌, ◌<◌, ◌≤◌, ℕ, ◌+◌, ◌*◌, ◌/◌, ◌%◌, Bool, true, false, cond, ◌&&◌, List, length, get_or, set, None, option_map, slice_get, refl, ap, ◌∙◌, arith}
use Rattle.std.specs.Prelude.{◌==◌, nat_lt, is_some}
use Rattle.std.specs.FinMap.{get}
use Rattle.std.proofs.lemmas.Bool.Decides.{nat_tests}
use Rattle.std.proofs.lemmas.Nat.{mod-mul-add, div-add-mod'}
use Rattle.std.proofs.lemmas.Option.{slice_get-get_or, slice_get_past}
use Rattle.queue_lock.specs.declared.word.LockWord.{LockWord}
use Rattle.queue_lock.specs.View.{is_own, lock_in, lock_at, with_lock}
use Rattle.queue_lock.specs.Kept.{lock_of, opening_word, map_of, locks_of, IsWordOfEach}
use Rattle.queue_lock.proofs.Maps.{get-map_of_place, get-map_of_none, map_of-set}

-- the number of a lock word of the home, by its place
pub number_of : (c k q : ℕ) → q % k ≡ c → q ≡ q / k * k + c
number_of c k q is = grind (arith, div-add-mod' q k)

module _ (c k n t : ℕ) (ws : List LockWord) (each : IsWordOfEach c k n ws) (q : ℕ) where
  pub place_in : nat_lt q n ≡ true → (q % k == c) ≡ true → q / k < length ws
  place_in below here =
      let is : q ≡ q / k * k + c = number_of c k q (grind (arith, nat_tests)) in
      each.there (q / k) (grind (arith, nat_tests, is))

  past_all : nat_lt q n ≡ false → q ≡ q / k * k + c → length ws ≤ q / k
  past_all above is = grind (arith, nat_tests, each.within (q / k))

  found : (a b : Bool) → nat_lt q n ≡ a → (q % k == c) ≡ b → get (map_of k c ws) q ≡ cond (a && b) (option_map lock_of (slice_get ws (q / k))) None
  found true true e f =
      get-map_of_place k c ws (q / k) q (omega (arith, each.cluster_in_range)) (number_of c k q (grind (arith, nat_tests)))
  found false true e f =
      let is : q ≡ q / k * k + c = number_of c k q (grind (arith, nat_tests)) in
      get-map_of_place k c ws (q / k) q (omega (arith, each.cluster_in_range)) is
      ∙ ap (option_map lock_of) (slice_get_past ws (q / k) (past_all e is))
  found a false e f =
      get-map_of_none k c ws q (λ i same. other i (ap (λ m. m % k) same ∙ mod-mul-add i k c each.cluster_in_range))
      ∙ none a
    where
      other : (i : ℕ) → q % k ≢ c
      other i is = grind (arith, nat_tests)

      none : (a : Bool) → None ≡ cond (a && false) (option_map lock_of (slice_get ws (q / k))) None
      none true = refl
      none false = refl

  pub get_word : get (map_of k c ws) q ≡ cond (is_own (locks_of c k n t ws) q) (option_map lock_of (slice_get ws (q / k))) None
  get_word = found _ _ refl refl

  some_word : (a b : Bool) → nat_lt q n ≡ a → (q % k == c) ≡ b → is_some (cond (a && b) (option_map lock_of (slice_get ws (q / k))) None) ≡ (a && b)
  some_word true true e f =
      ap (λ o. is_some (option_map lock_of o)) (slice_get-get_or ws (q / k) (opening_word 0) (place_in e f))
  some_word true false e f = refl
  some_word false b e f = refl

  pub whole_at : is_some (get (map_of k c ws) q) ≡ is_own (locks_of c k n t ws) q
  whole_at = ap is_some get_word ∙ some_word _ _ refl refl

  is_below : is_own (locks_of c k n t ws) q ≡ true → nat_lt q n ≡ true
  is_below own = grind (arith, nat_tests)

  is_here : is_own (locks_of c k n t ws) q ≡ true → (q % k == c) ≡ true
  is_here own = grind (arith, nat_tests)

  pub number_low : is_own (locks_of c k n t ws) q ≡ true → q < n
  number_low own = grind (arith, nat_tests, is_below own)

  pub place_low : is_own (locks_of c k n t ws) q ≡ true → q / k < length ws
  place_low own = place_in (is_below own) (is_here own)

  -- a lock word is at its place
  pub lock_at_place : (d : LockWord) → is_own (locks_of c k n t ws) q ≡ true → lock_at (locks_of c k n t ws) q ≡ lock_of (get_or ws (q / k) d)
  unfolding lock_at
  lock_at_place d own =
      ap lock_in (get_word ∙ ap (λ b. cond b (option_map lock_of (slice_get ws (q / k))) None) own ∙ ap (option_map lock_of) (slice_get-get_or ws (q / k) d (place_low own)))

  -- another one there is another lock word of the home
  pub with_lock_place : (w : LockWord) → is_own (locks_of c k n t ws) q ≡ true → locks_of c k n t (set ws (q / k) w) ≡ with_lock (locks_of c k n t ws) q (lock_of w)
  unfolding with_lock
  with_lock_place w own =
      let is : q ≡ q / k * k + c = number_of c k q (grind (arith, nat_tests, is_here own)) in
      let same = map_of-set k c ws (q / k) q w (omega (arith, each.cluster_in_range)) (place_low own) is in
      λ i. record { cluster = c; clusters = k; locks = n; harts = t; words = same i }
