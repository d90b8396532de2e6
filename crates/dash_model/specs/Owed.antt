-- Acknowledgements that are due to a cluster, and those that a hart has to wait for, counted in the log.
use Rattle.std.specs.Prelude.{◌≡◌, ℕ, ◌==◌, ◌<◌, if◌then◌else◌, List, sum_by, slice_get, Some}
use Rattle.dash_base.specs.declared.line.Line.{Line}
use Rattle.dash_base.specs.declared.id.ClusterId.{ClusterId}
use Rattle.dash_base.specs.declared.id.HartId.{HartId}
use Rattle.dash_base.specs.declared.id.LineId.{LineId}
use Rattle.dash_base.specs.declared.topology.Topology.{Topology}
use Rattle.dash_msg.specs.declared.msg.Msg.{Msg}
use Rattle.dash_msg.specs.declared.msg.Msg.TheVariants.{DataEx, Ack, TransferAck}
use Rattle.dash_base.specs.Places.{cluster_of}
use Rattle.dash_event.specs.declared.event.Event.{Event}
use Rattle.dash_event.specs.declared.event.Kind.{Kind}
use Rattle.dash_event.specs.declared.event.Kind.TheVariants.{Take}
use Rattle.dash_model.specs.Log.{IsCommitEvent}

-- how many acknowledgements a message announces, where it brings this line to own
abbrev pub announced_by : LineId → Msg → ℕ
announced_by line (DataEx l copy count) = if l.0 == line.0 then count else 0
announced_by line msg = 0

-- how many acknowledgements of a line a message is
abbrev pub acknowledged_by : LineId → Msg → ℕ
acknowledged_by line (Ack l) = if l.0 == line.0 then 1 else 0
acknowledged_by line (TransferAck l) = if l.0 == line.0 then 1 else 0
acknowledged_by line msg = 0

-- what an event counts, where it takes a message
abbrev pub taken_in : (Msg → ℕ) → Kind → ℕ
taken_in weight (Take from msg) = weight msg
taken_in weight kind = 0

-- a count over the messages that a cluster took
abbrev pub taken : (Msg → ℕ) → ClusterId → List Event → ℕ
taken weight cluster log = sum_by (λ e. if e.cluster.0 == cluster.0 then taken_in weight e.kind else 0) log

-- more acknowledgements of a line were announced to a cluster than it took
abbrev pub IsDue : List Event → ClusterId → LineId → Type 0
IsDue log cluster line = taken (acknowledged_by line) cluster log < taken (announced_by line) cluster log

-- a cluster takes a line to own at a position
pub record IsGivenToOwn (log : List Event) (i : ℕ) (cluster : ClusterId) (line : LineId) : Type 0 where
  pub event : Event
  pub at : slice_get log i ≡ Some event
  pub in_cluster : event.cluster ≡ cluster
  pub from : ClusterId
  pub copy : Line
  pub count : ℕ
  pub takes : event.kind ≡ Take from (DataEx line copy count)

-- a hart has to wait for acknowledgements of a line: some are due to its cluster, and it committed a version of the line since the cluster last took the line to own
pub record IsOwed (t : Topology) (log : List Event) (hart : HartId) (line : LineId) : Type 0 where
  pub due : IsDue log (cluster_of t hart) line
  pub at : ℕ
  pub version : ℕ
  pub commit : IsCommitEvent log at hart line version
  pub since : (i : ℕ) → IsGivenToOwn log i (cluster_of t hart) line → ¬ (at < i)
