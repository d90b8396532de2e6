-- Coherence: what a log says of each line, and of each lock word, is one order of writes, which no hart sees backwards.
use Rattle.std.specs.Prelude.{◌≡◌, ℕ, ◌+◌, ◌<◌, ◌≤◌, ◌==◌, true, if◌then◌else◌, List, take, sum_by, Some}
use Rattle.dash_base.specs.Words.{has_byte}
use Rattle.dash_base.specs.declared.id.HartId.{HartId}
use Rattle.dash_base.specs.declared.id.LineId.{LineId}
use Rattle.dash_base.specs.declared.id.WordAddr.{WordAddr}
use Rattle.dash_base.specs.declared.topology.Topology.{Topology}
use Rattle.elf_load.specs.Image.{ImageView}
use Rattle.dash_base.specs.Places.{line_of}
use Rattle.dash_event.specs.declared.access.Access.{Access}
use Rattle.dash_event.specs.declared.access.Seen.TheVariants.{Line, Own, Lock}
use Rattle.dash_event.specs.declared.event.Event.{Event}
use Rattle.dash_event.specs.declared.event.Kind.{Kind}
use Rattle.dash_event.specs.declared.event.Kind.TheVariants.{Load, Store, Commit, Rmw, Grant, Free}
use Rattle.dash_event.specs.Offered.{bytes_under}
use Rattle.dash_model.specs.Log.{IsEventAt, IsShown, IsCommitEvent, commits_before}
use Rattle.dash_model.specs.LineContent.{word_at}

-- before position i the hart's store of this number retired, of a word of this line
pub record IsStoredBefore (t : Topology) (log : List Event) (i : ℕ) (hart : HartId) (number : ℕ) (line : LineId) : Type 0 where
  pub at : ℕ
  pub store : Access
  pub is_at : IsEventAt log at (Store store)
  pub before : at < i
  pub of_hart : store.hart ≡ hart
  pub of_number : store.number ≡ number
  pub of_line : line_of t store.word ≡ line

-- a store's commit stands before position i
pub record IsCommittedBefore (log : List Event) (store : Access) (i : ℕ) : Type 0 where
  pub at : ℕ
  pub line : LineId
  pub version : ℕ
  pub is_at : IsEventAt log at (Commit store.hart store.number line version)
  pub before : at < i

-- at position i an access is shown its hart's own store of this number: the newest of the word, which has all bytes that are meant and is not yet committed
pub record IsShownOwn (log : List Event) (i : ℕ) (a : Access) (number : ℕ) : Type 0 where
  pub at : ℕ
  pub store : Access
  pub value : ℕ
  pub is_at : IsEventAt log at (Store store)
  pub before : at < i
  pub of_hart : store.hart ≡ a.hart
  pub of_word : store.word ≡ a.word
  pub of_number : store.number ≡ number
  pub newest : (j : ℕ) (b : Access) → IsEventAt log j (Store b) → b.hart ≡ a.hart → b.word ≡ a.word → at < j → ¬ (j < i)
  pub covers : (k : ℕ) → k < 4 → has_byte a.mask k ≡ true → has_byte store.mask k ≡ true
  pub written : store.written ≡ Some value
  pub read : a.read ≡ Some (bytes_under a.mask value)
  pub not_yet : ¬ IsCommittedBefore log store i

-- what happened serves an access of a lock word
abbrev pub ServesLock : Kind → Access → Type 0
ServesLock (Grant b) a = b ≡ a
ServesLock (Free from b) a = b ≡ a
ServesLock kind a = ⊥

-- the event at a position does
pub record IsLockEvent (log : List Event) (i : ℕ) (a : Access) : Type 0 where
  pub kind : Kind
  pub at : IsEventAt log i kind
  pub is : ServesLock kind a

-- how many accesses of a lock word an event serves
abbrev pub lock_uses : WordAddr → Kind → ℕ
lock_uses word (Grant a) = if a.word.0 == word.0 then 1 else 0
lock_uses word (Free from a) = if a.word.0 == word.0 then 1 else 0
lock_uses word kind = 0

-- an access of a lock word reads what the one before it wrote, and the first reads 0
pub data ReadsLock (log : List Event) (i : ℕ) (a : Access) : Type 0 where
  reads_first : ((j : ℕ) (b : Access) → IsLockEvent log j b → b.word ≡ a.word → ¬ (j < i)) → a.read ≡ Some 0 → ReadsLock log i a
  reads_last : (j : ℕ) (b : Access) → IsLockEvent log j b → b.word ≡ a.word → j < i
      → ((k : ℕ) (c : Access) → IsLockEvent log k c → c.word ≡ a.word → j < k → ¬ (k < i)) → a.read ≡ b.written → ReadsLock log i a

-- a coherent log
pub record IsCoherent (image : ImageView) (t : Topology) (log : List Event) : Type 0 where
  -- the commits of each line carry the versions 1, 2, 3 and so on
  pub versions_count : (i : ℕ) (hart : HartId) (line : LineId) (version : ℕ) → IsCommitEvent log i hart line version
      → version ≡ commits_before log i line + 1
  -- a store is committed after it retired, as a version of its word's line
  pub commits_follow_stores : (i : ℕ) (hart : HartId) (number : ℕ) (line : LineId) (version : ℕ)
      → IsEventAt log i (Commit hart number line version) → IsStoredBefore t log i hart number line
  -- each at most once, and in program order
  pub commits_in_order : (i j : ℕ) (hart : HartId) (m n : ℕ) (k l : LineId) (u v : ℕ)
      → IsEventAt log i (Commit hart m k u) → IsEventAt log j (Commit hart n l v) → i < j → m < n
  -- and no earlier store of the hart is left out
  pub no_store_is_passed : (i : ℕ) (hart : HartId) (number : ℕ) (line : LineId) (version : ℕ) (j : ℕ) (b : Access)
      → IsEventAt log i (Commit hart number line version) → IsEventAt log j (Store b) → b.hart ≡ hart → b.number < number
      → IsCommittedBefore log b i
  -- an atomic operation commits a version of its own word's line
  pub rmw_of_its_line : (i : ℕ) (a : Access) (line : LineId) (version : ℕ) → IsEventAt log i (Rmw a line version) → line ≡ line_of t a.word
  -- a version that is shown was committed before
  pub shown_is_committed : (i : ℕ) (a : Access) (version : ℕ) → IsShown log i a version → version ≤ commits_before log i (line_of t a.word)
  -- and its bytes are those that are read
  pub reads_shown : (i : ℕ) (a : Access) (version value : ℕ) → IsShown log i a version → a.read ≡ Some value
      → value ≡ bytes_under a.mask (word_at image log (line_of t a.word) version a.word.0)
  -- an atomic operation is shown the version before the one that it commits
  pub rmw_shows_last : (i : ℕ) (a : Access) (line : LineId) (version : ℕ) → IsEventAt log i (Rmw a line version)
      → (shown : ℕ) × (a.seen ≡ Line shown) × (version ≡ shown + 1)
  -- who is shown a version has no store of the word left to commit
  pub own_stores_are_committed : (i : ℕ) (a : Access) (version : ℕ) (j : ℕ) (b : Access) → IsShown log i a version
      → IsEventAt log j (Store b) → j < i → b.hart ≡ a.hart → b.word ≡ a.word → IsCommittedBefore log b i
  -- a load that is shown its hart's own store
  pub own_is_newest : (i : ℕ) (a : Access) (level number : ℕ) → IsEventAt log i (Load a level) → a.seen ≡ Own number → IsShownOwn log i a number
  -- the versions of a line that a hart is shown never fall
  pub never_falls : (i j : ℕ) (a b : Access) (u v : ℕ) → i < j → IsShown log i a u → IsShown log j b v
      → a.hart ≡ b.hart → line_of t a.word ≡ line_of t b.word → u ≤ v
  -- nor below what the hart itself committed
  pub own_commits_are_seen : (i j : ℕ) (a : Access) (line : LineId) (u v : ℕ) → i < j → IsCommitEvent log i a.hart line u → IsShown log j a v
      → line_of t a.word ≡ line → u ≤ v
  -- the accesses of a lock word count 0, 1, 2 and so on
  pub locks_count : (i : ℕ) (a : Access) → IsLockEvent log i a → a.seen ≡ Lock (sum_by (λ e. lock_uses a.word e.kind) (take i log))
  -- each reads what the one before wrote
  pub locks_are_chained : (i : ℕ) (a : Access) → IsLockEvent log i a → ReadsLock log i a
  -- a lock word is granted only where it is 0
  pub grants_read_zero : (i : ℕ) (a : Access) → IsEventAt log i (Grant a) → a.read ≡ Some 0
