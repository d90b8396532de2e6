-- What every run keeps of a line while its owner waits for acknowledgements: what the owner commits meanwhile is nowhere else.
use Rattle.std.specs.Prelude.{◌≡◌, ◌≢◌, ℕ, ◌+◌, ◌<◌, ◌≤◌, Option, List}
use Rattle.dash_base.specs.declared.line.Line.{Line}
use Rattle.dash_event.specs.declared.event.Event.{Event}
use Rattle.dash_model.specs.Config.{Config, cluster_id, line_id, lines}
use Rattle.dash_model.specs.Net.{Packet}
use Rattle.dash_model.specs.OnLine.{on, owned, came_own}
use Rattle.dash_model.specs.Cell.{Held, Came, Reads, Owns, NoAcks}
use Rattle.dash_model.specs.Machine.{Machine, Reaches}
use Rattle.dash_model.specs.Log.{commits_before}
use Rattle.dash_model.specs.LineFacts.{cell_at, home_at, IsOnItsWay, Carries}
use Rattle.dash_model.specs.Owed.{IsGivenToOwn}

-- cluster c has line l to own, as its owner or in a slot to which it came, and waits for acknowledgements of it
pub record IsPending (l : ℕ) (m : Machine) (c : ℕ) : Type 0 where
  pub has : 1 ≤ owned (cell_at l m c).copy + came_own (cell_at l m c).slot
  pub waits : (cell_at l m c).acks ≢ NoAcks

-- cluster c last took line l to own at this position, and no content of the line but its own copy is of a version that was committed after it: in the home's memory, in the copies of other clusters, in slots, and on its way
pub record KeepsToItself (w : Config) (log : List Event) (l : ℕ) (m : Machine) (c : ℕ) : Type 0 where
  pub at : ℕ
  pub given : IsGivenToOwn log at (cluster_id c) (line_id l)
  pub last : (i : ℕ) → IsGivenToOwn log i (cluster_id c) (line_id l) → ¬ (at < i)
  pub memory : (home_at w l m).mem.version ≤ commits_before log at (line_id l)
  pub copies : (x : ℕ) (hs : List ℕ) (o : Option ℕ) (d : Line) → x ≢ c → (cell_at l m x).copy ≡ Held hs o d → d.version ≤ commits_before log at (line_id l)
  pub to_read : (x n h : ℕ) (d : Line) → (cell_at l m x).slot ≡ Reads n h (Came d) → d.version ≤ commits_before log at (line_id l)
  pub to_own : (x n h : ℕ) (d : Line) → (cell_at l m x).slot ≡ Owns n h (Came d) → d.version ≤ commits_before log at (line_id l)
  pub messages : (q : Packet) (d : Line) → IsOnItsWay q (on l m.net) → Carries q.msg d → d.version ≤ commits_before log at (line_id l)

-- every run keeps this, of each line of memory and each cluster where it is pending
abbrev pub PendingLinesAreKept : Type 0
PendingLinesAreKept = (w : Config) (log : List Event) (m : Machine) (l c : ℕ) → l < lines w → Reaches w log m → IsPending l m c → KeepsToItself w log l m c
