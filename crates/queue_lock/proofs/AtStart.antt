-- The lock words of a home at the start, by their places.
use Rattle.std.proofs.Common.{◌≡◌, ◌<◌, ◌≤◌, ℕ, suc, ◌+◌, ◌-◌, ◌*◌, ◌/◌, ◌%◌, Bool, true, false, cond, ◌&&◌, List, length, replicate, get_or, Some, None, option_map, slice_get, refl, sym, ap, ◌∙◌, arith}
use Rattle.std.specs.Prelude.{◌==◌, nat_lt}
use Rattle.std.specs.Int.{div_ceil}
use Rattle.std.specs.FinMap.{get}
use Rattle.std.proofs.Math.Nat.{mul-le-mul_right}
use Rattle.std.proofs.lemmas.Grind.{div_ceil_times}
use Rattle.std.proofs.lemmas.List.{get_or-replicate}
use Rattle.std.proofs.lemmas.Option.{slice_get-get_or}
use Rattle.queue_lock.specs.declared.word.LockWord.{LockWord}
use Rattle.queue_lock.specs.View.{Lock, is_own, lock_at, unused, waiting_at}
use Rattle.queue_lock.specs.Kept.{lock_of, opening_word, map_of, locks_of, IsWordOfEach, AreKept}
use Rattle.queue_lock.proofs.Totals.{total_none}
use Rattle.queue_lock.proofs.Places.{get_word, place_in, place_low, lock_at_place}

-- a place below the number of places is that of a lock word
place_below : (n k count place : ℕ) → 0 < k → count ≡ div_ceil n k → place < count → place * k < n
place_below n k count place some is low =
    let most : count * k < n + k = rw is (div_ceil_times n k some).1 in
    let next : suc place * k ≤ count * k = mul-le-mul_right k (omega arith) in
    grind (arith, most, next)

-- and each lock word has such a place
place_there : (n k count place : ℕ) → 0 < k → count ≡ div_ceil n k → place * k < n → place < count
place_there n k count place some is below =
    let least : n ≤ count * k = rw is (div_ceil_times n k some).0 in
    grind (arith, least, (λ (h : count ≤ place). mul-le-mul_right k h))

pub words_of_each : (c k n count : ℕ) (ws : List LockWord) → c < k → count ≡ div_ceil (n - c) k → length ws ≡ count → IsWordOfEach c k n ws
words_of_each c k n count ws low is long = record {
  cluster_in_range = low;
  there = λ place below.
      let room : place * k < n - c = omega arith in
      let there = place_there (n - c) k count place (omega arith) is room in
      omega (arith, there);
  within = λ place below.
      let under = place_below (n - c) k count place (omega arith) is (omega arith) in
      omega (arith, under);
}

module _ (c k n t : ℕ) (ws : List LockWord) (each : IsWordOfEach c k n ws) (made : ws ≡ replicate (length ws) (opening_word t)) where
  at_place : (p : ℕ) (d : LockWord) → p < length ws → get_or ws p d ≡ opening_word t
  at_place p d low = ap (λ xs. get_or xs p d) made ∙ get_or-replicate (length ws) p (opening_word t) d low

  opened : (q : ℕ) (b s : Bool) → nat_lt q n ≡ b → (q % k == c) ≡ s → cond (b && s) (option_map lock_of (slice_get ws (q / k))) None ≡ cond (b && s) (Some unused) None
  opened q true true e f =
      let low = place_in c k n t ws each q e f in
      ap (option_map lock_of) (slice_get-get_or ws (q / k) (opening_word t) low)
      ∙ ap (λ (w : LockWord). Some (lock_of w)) (at_place (q / k) (opening_word t) low)
  opened q true false e f = refl
  opened q false s e f = refl

  -- each lock word of the home is unused
  pub opening_at : (q : ℕ) → get (map_of k c ws) q ≡ cond (is_own (locks_of c k n t ws) q) (Some unused) None
  opening_at q = get_word c k n t ws each q ∙ opened q _ _ refl refl

  none_at : (q : ℕ) (b : Bool) → is_own (locks_of c k n t ws) q ≡ b → cond b (length (lock_at (locks_of c k n t ws) q).queue) 0 ≡ 0
  none_at q true own =
      ap (λ (l : Lock). length l.queue) (lock_at_place c k n t ws each q (opening_word t) own ∙ ap lock_of (at_place (q / k) (opening_word t) (place_low c k n t ws each q own)))
  none_at q false own = refl

  pub kept_at_start : t ≤ 64 → AreKept c k n t ws 0
  kept_at_start few = record {
    each = each;
    room = λ p d low. ap (λ (w : LockWord). w.queue.capacity) (at_place p d low);
    counted = sym (total_none (waiting_at (locks_of c k n t ws)) n (λ q low. none_at q _ refl));
    few = omega arith;
    harts_in_range = few;
  }
