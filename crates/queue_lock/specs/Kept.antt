-- How a home keeps its lock words: by their numbers divided by the number of clusters, each with room for as many waiters as there are harts.
use Rattle.std.specs.Prelude.{◌≡◌, ℕ, ◌+◌, ◌*◌, ◌<◌, ◌≤◌, List, [], ◌∷◌, length, slice_index_or}
use Rattle.std.specs.Ordering.{nat_cmp}
use Rattle.std.specs.FinMap.{FinMap, empty, insert}
use Rattle.circular_buffer.specs.Buffer.{buffer}
use Rattle.queue_lock.specs.declared.word.LockWord.{LockWord}
use Rattle.queue_lock.specs.View.{Lock, LocksView, waiting}

-- a lock word, whatever room it has
abbrev pub lock_of : LockWord → Lock
lock_of w = record { value = w.value; count = w.count; queue = w.queue.items }

-- an unused lock word with this much room
abbrev pub opening_word : ℕ → LockWord
opening_word room = record { value = 0; count = 0; queue = buffer [] room }

-- a list of lock words, the first of which has this number, as a map by their numbers, which rise by a step
unfoldable pub map_of : ℕ → ℕ → List LockWord → FinMap nat_cmp Lock
map_of step first [] = empty
map_of step first (w ∷ ws) = insert (map_of step (first + step) ws) first (lock_of w)

-- the lock words of a cluster
abbrev pub locks_of : ℕ → ℕ → ℕ → ℕ → List LockWord → LocksView
locks_of cluster clusters locks harts words =
    record { cluster = cluster; clusters = clusters; locks = locks; harts = harts; words = map_of clusters cluster words }

-- the list has each lock word of the home
pub record IsWordOfEach (cluster clusters locks : ℕ) (words : List LockWord) : Type 0 where
  pub cluster_in_range : cluster < clusters
  pub there : (place : ℕ) → place * clusters + cluster < locks → place < length words
  pub within : (place : ℕ) → place < length words → place * clusters + cluster < locks

-- so it does; each has room for as many waiters as there are harts; and their number is kept, which is no more than those
pub record AreKept (cluster clusters locks harts : ℕ) (words : List LockWord) (count : ℕ) : Type 0 where
  pub each : IsWordOfEach cluster clusters locks words
  pub room : (place : ℕ) (other : LockWord) → place < length words → (slice_index_or words place other).queue.capacity ≡ harts
  pub counted : count ≡ waiting (locks_of cluster clusters locks harts words)
  pub few : count ≤ harts
  pub harts_in_range : harts ≤ 64
