-- What the laws of lock words say: a call on a word changes that one alone, and the waiters are counted.
use Rattle.std.specs.Prelude.{◌≡◌, ◌≢◌, ℕ, ◌+◌, true}
use Rattle.queue_lock.specs.declared.waiter.Waiter.{Waiter}
use Rattle.queue_lock.specs.View.{Lock, LocksView, is_own, is_ready, lock_at, with_lock, waiting}
use Rattle.queue_lock.specs.Steps.{after_ask, after_grant, after_free}

-- the word of the call becomes what the call says, each other one stays, and the home has the same words
pub record CallsChangeOneWord : Type 0 where
  pub here : (v : LocksView) (i : ℕ) (l : Lock) → lock_at (with_lock v i l) i ≡ l
  pub others : (v : LocksView) (i j : ℕ) (l : Lock) → j ≢ i → lock_at (with_lock v i l) j ≡ lock_at v j
  pub own : (v : LocksView) (i j : ℕ) (l : Lock) → is_own (with_lock v i l) j ≡ is_own v j

-- how many wait after a call
pub record WaitersAreCounted : Type 0 where
  pub ask : (v : LocksView) (i : ℕ) (w : Waiter) → is_own v i ≡ true → waiting (after_ask v i w) ≡ waiting v + 1
  pub grant : (v : LocksView) (i : ℕ) (w : Waiter) → is_own v i ≡ true → is_ready (lock_at v i) ≡ true → waiting (after_grant v i w) + 1 ≡ waiting v
  pub free : (v : LocksView) (i : ℕ) → is_own v i ≡ true → waiting (after_free v i) ≡ waiting v
