-- The lock words of a home as contracts see them.
use Rattle.std.specs.Prelude.{ℕ, zero, suc, ◌≡◌, ◌≤◌, ◌+◌, ◌==◌, ◌&&◌, Bool, not, nat_lt, List, [], length, Option, Some, None, is_some, if◌then◌else◌, refl}
use Rattle.std.specs.Ordering.{nat_cmp}
use Rattle.std.specs.FinMap.{FinMap, get, insert, code}
use Rattle.std.specs.Coded.{Coded, code_by, coded×, coded_ℕ, coded_list}
use Rattle.dash_base.specs.Places.{home_among}
use Rattle.queue_lock.specs.declared.waiter.Waiter.{Waiter}

-- what a lock word holds; how often it was granted or freed; and who waits for it, the first in front
pub record Lock : Type 0 where
  pub value : ℕ
  pub count : ℕ
  pub queue : List Waiter

-- the cluster; how many clusters, lock words and harts the machine has; and the lock words whose home the cluster is, by their numbers
pub record LocksView : Type 0 where
  pub cluster : ℕ
  pub clusters : ℕ
  pub locks : ℕ
  pub harts : ℕ
  pub words : FinMap nat_cmp Lock

-- a waiter is stored as its three fields
abbrev waiter_code : Coded Waiter
waiter_code =
    code_by (ℕ × (ℕ × ℕ)) (coded× coded_ℕ (coded× coded_ℕ coded_ℕ)) (λ w. (w.hart.0, (w.number, w.value))) (λ p. record { hart = record { 0 = p.0 }; number = p.1.0; value = p.1.1 }) (λ _. refl)

-- a lock word as its three
abbrev lock_code : Coded Lock
lock_code =
    code_by (ℕ × (ℕ × List Waiter)) (coded× coded_ℕ (coded× coded_ℕ (coded_list waiter_code))) (λ l. (l.value, (l.count, l.queue))) (λ p. record { value = p.0; count = p.1.0; queue = p.1.1 }) (λ _. refl)

-- and a home's lock words as the five fields
abbrev pub view_code : Coded LocksView
view_code =
    code_by ((ℕ × ℕ) × ((ℕ × ℕ) × FinMap nat_cmp Lock)) (coded× (coded× coded_ℕ coded_ℕ) (coded× (coded× coded_ℕ coded_ℕ) (code coded_ℕ lock_code))) (λ v. ((v.cluster, v.clusters), ((v.locks, v.harts), v.words))) (λ p. record { cluster = p.0.0; clusters = p.0.1; locks = p.1.0.0; harts = p.1.0.1; words = p.1.1 }) (λ _. refl)

-- whether a number is that of a lock word, and this home is its
abbrev pub is_own : LocksView → ℕ → Bool
is_own v i = nat_lt i v.locks && (home_among v.clusters i == v.cluster)

-- a lock word that is 0, was never granted or freed, and for which nobody waits
abbrev pub unused : Lock
unused = record { value = 0; count = 0; queue = [] }

-- a lock word that may be there; in place of one that is not, an unused one
abbrev pub lock_in : Option Lock → Lock
lock_in None = unused
lock_in (Some l) = l

-- the lock word of a number
unfoldable pub lock_at : LocksView → ℕ → Lock
lock_at v i = lock_in (get v.words i)

-- the same lock words but for one
unfoldable pub with_lock : LocksView → ℕ → Lock → LocksView
with_lock v i l = record v { words = insert v.words i l }

-- whether nobody waits
abbrev pub is_empty : List Waiter → Bool
is_empty queue = length queue == 0

-- whether a lock word may be granted: it is 0, and someone waits for it
abbrev pub is_ready : Lock → Bool
is_ready l = (l.value == 0) && not (is_empty l.queue)

-- the greatest count
abbrev pub most : ℕ
most = 18446744073709551615

-- one more, which stays at its greatest value
abbrev pub raised : ℕ → ℕ
raised n = if nat_lt n most then n + 1 else n

-- f 0 + .. + f (n - 1)
unfoldable pub total : (ℕ → ℕ) → ℕ → ℕ
total f zero = 0
total f (suc n) = f n + total f n

-- how many wait for the lock word of a number, where it is one of this home
abbrev pub waiting_at : LocksView → ℕ → ℕ
waiting_at v i = if is_own v i then length (lock_at v i).queue else 0

-- how many wait for the lock words of this home in all
abbrev pub waiting : LocksView → ℕ
waiting v = total (waiting_at v) v.locks

-- just the lock words whose home the cluster is are there, and no more wait for them than the machine has harts
pub record IsWhole (v : LocksView) : Type 0 where
  pub each : (i : ℕ) → is_some (get v.words i) ≡ is_own v i
  pub few : waiting v ≤ v.harts
