-- Logs by the positions of their events.
use Rattle.std.specs.Prelude.{◌≡◌, ℕ, ◌==◌, if◌then◌else◌, List, [], ◌∷◌, flat_map, length, take, Some, slice_get, option_map}
use Rattle.dash_base.specs.declared.id.HartId.{HartId}
use Rattle.dash_base.specs.declared.id.LineId.{LineId}
use Rattle.dash_event.specs.Records.{accesses_in, records_in}
use Rattle.dash_event.specs.declared.access.Access.{Access}
use Rattle.dash_event.specs.declared.access.Seen.TheVariants.{Line}
use Rattle.dash_event.specs.declared.event.Event.{Event}
use Rattle.dash_event.specs.declared.event.Kind.{Kind}
use Rattle.dash_event.specs.declared.event.Kind.TheVariants.{Commit, Rmw}
use Rattle.dash_event.specs.declared.step_record.StepRecord.{StepRecord}

-- this happened at a position of a log
abbrev pub IsEventAt : List Event → ℕ → Kind → Type 0
IsEventAt log i kind = option_map (λ e. e.kind) (slice_get log i) ≡ Some kind

-- the event at a position has this access
pub record IsAccessEvent (log : List Event) (i : ℕ) (a : Access) : Type 0 where
  pub kind : Kind
  pub at : IsEventAt log i kind
  pub is : accesses_in kind ≡ a ∷ []

-- the access of the event at a position was shown this version of its word's line
pub record IsShown (log : List Event) (i : ℕ) (a : Access) (version : ℕ) : Type 0 where
  pub event : IsAccessEvent log i a
  pub seen : a.seen ≡ Line version

-- the event at a position has this record at its order point
pub record IsRecordEvent (log : List Event) (i : ℕ) (r : StepRecord) : Type 0 where
  pub kind : Kind
  pub at : IsEventAt log i kind
  pub is : records_in kind ≡ r ∷ []

-- what happened commits this version of a line, and the hart wrote it: a store that leaves its write buffer, or an atomic operation
abbrev pub Commits : Kind → HartId → LineId → ℕ → Type 0
Commits (Commit g number l version) hart line v = (g ≡ hart) × (l ≡ line) × (version ≡ v)
Commits (Rmw a l version) hart line v = (a.hart ≡ hart) × (l ≡ line) × (version ≡ v)
Commits kind hart line v = ⊥

-- the event at a position is a commit
pub record IsCommitEvent (log : List Event) (i : ℕ) (hart : HartId) (line : LineId) (version : ℕ) : Type 0 where
  pub kind : Kind
  pub at : IsEventAt log i kind
  pub is : Commits kind hart line version

-- what happened, in a list of one, where it commits a version of a line
abbrev pub commit_in : LineId → Kind → List Kind
commit_in line (Commit hart number l version) = if l.0 == line.0 then Commit hart number l version ∷ [] else []
commit_in line (Rmw a l version) = if l.0 == line.0 then Rmw a l version ∷ [] else []
commit_in line kind = []

-- the commits of a line, in the order of the log
abbrev pub commits_of : List Event → LineId → List Kind
commits_of log line = flat_map (λ e. commit_in line e.kind) log

-- how many commits of a line stand before a position
abbrev pub commits_before : List Event → ℕ → LineId → ℕ
commits_before log i line = length (commits_of (take i log) line)
