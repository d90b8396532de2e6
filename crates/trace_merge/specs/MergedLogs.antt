-- What is merged: one log a cluster, in the order of the clusters.
use Rattle.std.specs.Prelude.{◌≡◌, ℕ, ◌<◌, List, [], length, map, slice_index_or}
use Rattle.std.specs.List.{All}
use Rattle.dash_event.specs.declared.event.Event.{Event}
use Rattle.dash_model.specs.Config.{Config}
use Rattle.dash_model.specs.Part.{opening_part}
use Rattle.dash_model.specs.Machine.{Step, event_of, IsRising}
use Rattle.dash_model.specs.LocalRun.{IsLocalRun, LanesMeet, StampsFit, IsMergeOf, IsMergedRun}

-- a log of cluster c alone: its events are of c, and each precedes all that follow, so their stamps rise
pub record IsLogOf (c : ℕ) (log : List Event) : Type 0 where
  pub cluster : All (λ e. e.cluster.0 ≡ c) log
  pub rising : IsRising log

-- the log of number c, and no events past the last
abbrev pub log_of : List (List Event) → ℕ → List Event
log_of logs c = slice_index_or logs c []

-- the log of number c is of cluster c
abbrev pub AreLogs : List (List Event) → Type 0
AreLogs logs = (c : ℕ) → c < length logs → IsLogOf c (log_of logs c)

-- such logs can be merged, and their merge is a run of the machine, which leaves each lane with `left` of the meet
pub record MergesToRun (w : Config) (runs : ℕ → List Step) (l : LanesMeet w runs) (logs : List (List Event)) : Type 0 where
  pub mergeable : AreLogs logs
  pub run : (es : List Event) → IsMergeOf (length logs) (log_of logs) es → IsMergedRun w runs l.left es

-- so are the logs of the clusters' own runs whose lanes are met, and whose stamps stay below the greatest
abbrev pub MergedLogsAreRuns : Type 0
MergedLogsAreRuns = (w : Config) (runs : ℕ → List Step) (logs : List (List Event))
    → length logs ≡ w.top.clusters → ((c : ℕ) → log_of logs c ≡ map event_of (runs c))
    → ((c : ℕ) → IsLocalRun w c (opening_part w) (runs c)) → (l : LanesMeet w runs) → ((c : ℕ) → StampsFit (runs c))
    → MergesToRun w runs l logs
