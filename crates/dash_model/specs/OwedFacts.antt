-- What every run keeps of the acknowledgements of a line: each cluster's entry says what the log counts.
use Rattle.std.specs.Prelude.{◌≡◌, ℕ, ◌+◌, ◌<◌, true, List, []}
use Rattle.dash_event.specs.declared.event.Event.{Event}
use Rattle.dash_model.specs.Maps.{member}
use Rattle.dash_model.specs.Config.{Config, cluster_id, line_id, hart_id, lines, cluster_of}
use Rattle.dash_model.specs.Cell.{Acks, NoAcks, Counting, Expects}
use Rattle.dash_model.specs.Machine.{Machine, Reaches}
use Rattle.dash_model.specs.LineFacts.{cell_at}
use Rattle.dash_model.specs.Owed.{announced_by, acknowledged_by, taken, IsOwed}

-- the harts to whom an entry owes
abbrev pub owed_to : Acks → List ℕ
owed_to NoAcks = []
owed_to (Counting got owed) = owed
owed_to (Expects expected got owed) = owed

-- how many acknowledgements a cluster took, by its entry and by how many were announced to it: without an entry all of them; those that came ahead of their number, beside all that were announced before; and where the number is known all but the expected ones that did not come
abbrev pub CountsAre : Acks → (announced came : ℕ) → Type 0
CountsAre NoAcks announced came = came ≡ announced
CountsAre (Counting got owed) announced came = came ≡ announced + got
CountsAre (Expects expected got owed) announced came = (got < expected) × (came + expected ≡ announced + got)

-- the entry of line l at cluster c counts as the log does, and owes to the harts of c to whom the log does, and to no other
pub record OwesAsLogged (w : Config) (log : List Event) (l : ℕ) (m : Machine) (c : ℕ) : Type 0 where
  pub counts : CountsAre (cell_at l m c).acks (taken (announced_by (line_id l)) (cluster_id c) log) (taken (acknowledged_by (line_id l)) (cluster_id c) log)
  pub its_harts : (h : ℕ) → member h (owed_to (cell_at l m c).acks) ≡ true → cluster_of w h ≡ c
  pub from_entry : (h : ℕ) → member h (owed_to (cell_at l m c).acks) ≡ true → IsOwed w.top log (hart_id h) (line_id l)
  pub to_entry : (h : ℕ) → cluster_of w h ≡ c → IsOwed w.top log (hart_id h) (line_id l) → member h (owed_to (cell_at l m c).acks) ≡ true

-- every run keeps this, of each line of memory and each cluster
abbrev pub RunsOweAsLogged : Type 0
RunsOweAsLogged = (w : Config) (log : List Event) (m : Machine) (l c : ℕ) → l < lines w → Reaches w log m → OwesAsLogged w log l m c
