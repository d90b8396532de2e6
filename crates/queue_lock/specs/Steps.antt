-- The lock words of a home at the start, and after each call.
use Rattle.std.specs.Prelude.{◌≡◌, ℕ, [], ◌∷◌, ◌++◌, drop, Some, None, if◌then◌else◌}
use Rattle.std.specs.FinMap.{get}
use Rattle.dash_base.specs.declared.topology.Topology.{Topology}
use Rattle.dash_base.specs.Places.{hart_count}
use Rattle.queue_lock.specs.declared.waiter.Waiter.{Waiter}
use Rattle.queue_lock.specs.View.{Lock, LocksView, is_own, lock_at, with_lock, unused, raised}

-- the home of a cluster: just its lock words are there, each unused
pub record IsOpening (t : Topology) (cluster : ℕ) (v : LocksView) : Type 0 where
  pub cluster_is : v.cluster ≡ cluster
  pub clusters_is : v.clusters ≡ t.clusters
  pub locks_is : v.locks ≡ t.locks
  pub harts_is : v.harts ≡ hart_count t
  pub words_are : (i : ℕ) → get v.words i ≡ if is_own v i then Some unused else None

-- a waiter stands behind the others
abbrev pub asked : Waiter → Lock → Lock
asked w l = record l { queue = l.queue ++ w ∷ [] }

-- the first waiter, which is this one, leaves, and the word is what it asked for
abbrev pub granted : Waiter → Lock → Lock
granted w l = record { value = w.value; count = raised l.count; queue = drop 1 l.queue }

-- the word is 0
abbrev pub freed : Lock → Lock
freed l = record l { value = 0; count = raised l.count }

-- the lock words once a waiter has asked for one
abbrev pub after_ask : LocksView → ℕ → Waiter → LocksView
after_ask v i w = with_lock v i (asked w (lock_at v i))

-- once one was granted to a waiter
abbrev pub after_grant : LocksView → ℕ → Waiter → LocksView
after_grant v i w = with_lock v i (granted w (lock_at v i))

-- once one was freed
abbrev pub after_free : LocksView → ℕ → LocksView
after_free v i = with_lock v i (freed (lock_at v i))
