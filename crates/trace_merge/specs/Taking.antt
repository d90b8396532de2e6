-- How far each log was taken.
use Rattle.std.specs.Prelude.{◌≡◌, ℕ, ◌+◌, ◌<◌, ◌≤◌, ◌⊎◌, Option, None, Some, cond, nat_lt, List, length, slice_get, slice_index_or, slice_set}
use Rattle.dash_event.specs.declared.event.Event.{Event}
use Rattle.dash_model.specs.LocalRun.{events_of}
use Rattle.trace_merge.specs.MergedLogs.{log_of}

-- of each log as many events were taken as es has of its cluster
abbrev pub AreTaken : List Event → List ℕ → Type 0
AreTaken es taken = (c : ℕ) → c < length taken → slice_index_or taken c 0 ≡ length (events_of c es)

-- the first event of the log of cluster c that was not taken
abbrev pub head_of : List (List Event) → List ℕ → ℕ → Option Event
head_of logs taken c = slice_get (log_of logs c) (slice_index_or taken c 0)

-- all events of the logs of the first k clusters were taken
abbrev pub AllTaken : List (List Event) → List ℕ → ℕ → Type 0
AllTaken logs taken k = (c : ℕ) → c < k → head_of logs taken c ≡ None

-- an event that was not taken, and which no other of the first k clusters comes before
pub record IsFirst (logs : List (List Event)) (taken : List ℕ) (k : ℕ) (e : Event) : Type 0 where
  pub within : e.cluster.0 < k
  pub head : head_of logs taken e.cluster.0 ≡ Some e
  pub first : (c : ℕ) (f : Event) → c < k → head_of logs taken c ≡ Some f → (e.stamp < f.stamp) ⊎ ((e.stamp ≡ f.stamp) × (e.cluster.0 ≤ c))

-- the earlier of two events, the one before in doubt
abbrev pub earlier_of : Option Event → Option Event → Option Event
earlier_of None f = f
earlier_of (Some e) None = Some e
earlier_of (Some e) (Some f) = cond (nat_lt f.stamp e.stamp) (Some f) (Some e)

-- one event more of its cluster was taken
abbrev pub taken_with : List ℕ → Event → List ℕ
taken_with taken e = slice_set taken e.cluster.0 (slice_index_or taken e.cluster.0 0 + 1)
