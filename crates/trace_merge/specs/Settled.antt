-- How far logs that still grow can be merged.
--
--   stamp         1   2   3   4   5   6
--   cluster 0     #   #           #   |     its last event has stamp 5: the next will have 6 or more
--   cluster 1             #           #  |  its last event has stamp 6: the next will have 7 or more
--                 '------ settled -'
--
-- No cluster can still write anything before (6, 0), so the events 1, 2, 3, 5 are settled. Event 6 of cluster 1 is
-- not: cluster 0 may still write an event 6, which comes first.
use Rattle.std.specs.Prelude.{◌≡◌, ℕ, ◌+◌, ◌<◌, ◌⊎◌, List, [], ◌∷◌, ◌++◌, length, take, drop}
use Rattle.std.specs.List.{AllByRecursion as Each}
use Rattle.dash_event.specs.declared.event.Event.{Event}
use Rattle.dash_model.specs.Machine.{PrecedesAll, IsRising}
use Rattle.dash_model.specs.LocalRun.{events_of, IsMergeOf}
use Rattle.trace_merge.specs.MergedLogs.{log_of, AreLogs}

-- the stamp of a log's last event, 0 where it has none
abbrev pub last_stamp : List Event → ℕ
last_stamp [] = 0
last_stamp (e ∷ []) = e.stamp
last_stamp (e ∷ f ∷ fs) = last_stamp (f ∷ fs)

-- an event before all that cluster c can still write, whose last event has this stamp
abbrev pub IsBeforeNext : ℕ → ℕ → Event → Type 0
IsBeforeNext last c e = (e.stamp < last + 1) ⊎ ((e.stamp ≡ last + 1) × (e.cluster.0 < c))

-- an event is settled where no cluster can still write one before it
abbrev pub IsSettled : List (List Event) → Event → Type 0
IsSettled logs e = (c : ℕ) → c < length logs → IsBeforeNext (last_stamp (log_of logs c)) c e

-- what is left of the log of cluster c behind its events in es
abbrev pub left_of : List (List Event) → List Event → ℕ → List Event
left_of logs es c = drop (length (events_of c es)) (log_of logs c)

-- es is the start of the merge of these logs: of each it has the first events, it rises, and it comes before what is left
pub record StartsMerge (logs : List (List Event)) (es : List Event) : Type 0 where
  pub parts : (c : ℕ) → events_of c es ++ left_of logs es c ≡ log_of logs c
  pub rising : IsRising es
  pub before : (c : ℕ) → Each (λ e. PrecedesAll e (left_of logs es c)) es

-- es is the settled part: the start of the merge with all that is settled, and nothing else
pub record IsSettledPart (logs : List (List Event)) (es : List Event) : Type 0 where
  pub starts : StartsMerge logs es
  pub settled : Each (IsSettled logs) es
  pub rest : (c : ℕ) → Each (λ e. IsSettled logs e → ⊥) (left_of logs es c)

-- the logs grew: each cluster appended events of its own, with later stamps
pub record HaveGrown (earlier later : List (List Event)) : Type 0 where
  pub count : length earlier ≡ length later
  pub added : ℕ → List Event
  pub appended : (c : ℕ) → log_of earlier c ++ added c ≡ log_of later c
  pub after : (c : ℕ) → Each (λ e. last_stamp (log_of earlier c) < e.stamp) (added c)

-- es is a start of the settled part: a start of the merge of which all is settled
pub record StartsSettled (logs : List (List Event)) (es : List Event) : Type 0 where
  pub starts : StartsMerge logs es
  pub settled : Each (IsSettled logs) es

-- before anything was merged
abbrev pub NothingStarts : Type 0
NothingStarts = (logs : List (List Event)) → StartsSettled logs []

-- what was settled stays a start of the settled part
abbrev pub SettledPartsStay : Type 0
SettledPartsStay = (earlier later : List (List Event)) (es : List Event)
    → AreLogs later → HaveGrown earlier later → IsSettledPart earlier es → StartsSettled later es

-- the merge begins with each start of it
abbrev pub MergesBegin : Type 0
MergesBegin = (logs : List (List Event)) (es merged : List Event)
    → StartsMerge logs es → IsMergeOf (length logs) (log_of logs) merged → take (length es) merged ≡ es

-- what contracts see of a merger: how many logs it merges, and what it has merged
pub record Merging : Type 0 where
  pub clusters : ℕ
  pub done : List Event
