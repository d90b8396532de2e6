-- What a change of one lock word is to all lock words of the home.
use Rattle.std.proofs.Common.{◌≡◌, ◌≢◌, ◌⊎◌, ◌<◌, ◌≤◌, ℕ, ◌+◌, ◌/◌, true, List, length, get_or, set, inl, inr, arith, refl, sym, ap, ◌∙◌, subst, length-set}
use Rattle.std.proofs.lemmas.Bool.Decides.{nat_tests}
use Rattle.std.proofs.lemmas.List.{get_or-set_same, get_or-set_other}
use Rattle.queue_lock.specs.declared.word.LockWord.{LockWord}
use Rattle.queue_lock.specs.View.{Lock, LocksView, is_own, is_ready, lock_at, with_lock, waiting}
use Rattle.queue_lock.specs.Kept.{lock_of, locks_of, IsWordOfEach, AreKept}
use Rattle.queue_lock.proofs.Places.{place_low, lock_at_place, with_lock_place}
use Rattle.queue_lock.proofs.Counted.{waiting-with_lock, queue_within, ready_some}

same_or_not : (m n : ℕ) → (m ≡ n) ⊎ (m ≢ n)
same_or_not m n = grind (arith, nat_tests)

module _ (c k n t count : ℕ) (ws : List LockWord) (kept : AreKept c k n t ws count) (v : LocksView) (view : locks_of c k n t ws ≡ v) (i : ℕ) (own : is_own v i ≡ true) where
  own_here : is_own (locks_of c k n t ws) i ≡ true
  own_here = ap (λ (x : LocksView). is_own x i) view ∙ own

  pub place : i / k < length ws
  place = place_low c k n t ws kept.each i own_here

  -- the word at its place is the one of the number
  pub lock_is : (old : LockWord) → old ≡ get_or ws (i / k) old → lock_of old ≡ lock_at v i
  lock_is old at =
      ap lock_of at ∙ sym (lock_at_place c k n t ws kept.each i old own_here) ∙ ap (λ (x : LocksView). lock_at x i) view

  pub count_is : count ≡ waiting v
  count_is = kept.counted ∙ ap waiting view

  module _ (old : LockWord) (at : old ≡ get_or ws (i / k) old) where
    long_is : length old.queue.items ≡ length (lock_at v i).queue
    long_is = ap (λ (l : Lock). length l.queue) (lock_is old at)

    room_is : old.queue.capacity ≡ t
    room_is = ap (λ (w : LockWord). w.queue.capacity) at ∙ kept.room (i / k) old place

    -- where one more may wait, the word has room for it
    pub room_left : waiting v < v.harts → length old.queue.items < old.queue.capacity
    room_left fits =
        let within = queue_within v i own in
        let most : v.harts ≡ t = ap (λ (x : LocksView). x.harts) (sym view) in
        omega (arith, fits, within, long_is, most, room_is)

    pub few_left : waiting v < v.harts → count + 1 ≤ t
    few_left fits =
        let most : v.harts ≡ t = ap (λ (x : LocksView). x.harts) (sym view) in
        omega (arith, fits, most, count_is)

    -- where the word is ready, someone waits for it
    pub some_wait : is_ready (lock_at v i) ≡ true → 0 < length old.queue.items
    some_wait ready = ready_some (lock_of old) (ap is_ready (lock_is old at) ∙ ready)

    pub some_counted : is_ready (lock_at v i) ≡ true → 1 ≤ count
    some_counted ready =
        let within = queue_within v i own in
        let some = some_wait ready in
        omega (arith, within, some, long_is, count_is)

    pub after : (new : LockWord) (l : Lock) → lock_of new ≡ l → locks_of c k n t (set ws (i / k) new) ≡ with_lock v i l
    after new l is =
        with_lock_place c k n t ws kept.each i new own_here ∙ ap (λ (x : LocksView). with_lock x i (lock_of new)) view ∙ ap (with_lock v i) is

    -- what all lock words of a home keep stays so
    module _ (new : LockWord) (now : ℕ) (room : new.queue.capacity ≡ old.queue.capacity) (more : now + length old.queue.items ≡ count + length new.queue.items) where
      each_now : IsWordOfEach c k n (set ws (i / k) new)
      each_now = record {
        cluster_in_range = kept.each.cluster_in_range;
        there = λ p below. subst (λ m. p < m) (sym (length-set ws (i / k) new)) (kept.each.there p below);
        within = λ p low. kept.each.within p (subst (λ m. p < m) (length-set ws (i / k) new) low);
      }

      room_now : (p : ℕ) (d : LockWord) → p < length (set ws (i / k) new) → (get_or (set ws (i / k) new) p d).queue.capacity ≡ t
      room_now p d low =
          elim (same_or_not p (i / k)) [
            | inl e ↦ (ap (λ m. (get_or (set ws (i / k) new) m d).queue.capacity) e ∙ ap (λ (w : LockWord). w.queue.capacity) (get_or-set_same ws (i / k) new d place) ∙ room ∙ room_is)
            | inr apart ↦ (ap (λ (w : LockWord). w.queue.capacity) (get_or-set_other ws (i / k) p new d apart) ∙ kept.room p d (subst (λ m. p < m) (length-set ws (i / k) new) low))
          ]

      counted_now : now ≡ waiting (locks_of c k n t (set ws (i / k) new))
      counted_now =
          let change = waiting-with_lock v i (lock_of new) own in
          let same : waiting (locks_of c k n t (set ws (i / k) new)) ≡ waiting (with_lock v i (lock_of new)) = ap waiting (after new (lock_of new) refl) in
          omega (arith, change, same, more, long_is, count_is)

      pub kept_after : now ≤ t → AreKept c k n t (set ws (i / k) new) now
      kept_after few = record { each = each_now; room = room_now; counted = counted_now; few = few; harts_in_range = kept.harts_in_range }
