-- The machine: the parts of its clusters, what is on its way, and the console. Its steps and its runs.
use Rattle.std.specs.Prelude.{◌≡◌, ◌⊎◌, ℕ, ◌<◌, max, Some, List, [], ◌∷◌, ◌++◌, map}
use Rattle.dash_msg.specs.Classes.{class_of}
use Rattle.dash_msg.specs.declared.msg.Msg.TheVariants.{Unlock}
use Rattle.dash_event.specs.declared.event.Event.{Event}
use Rattle.dash_event.specs.declared.event.Kind.{Kind}
use Rattle.dash_event.specs.declared.event.Kind.TheVariants.{Put, Free, Take}
use Rattle.dash_model.specs.Maps.{upd, raised, most}
use Rattle.dash_model.specs.Config.{Config}
use Rattle.dash_model.specs.Net.{Packet, packet, parcel, head, tail, send}
use Rattle.dash_model.specs.Part.{Part, opening_part}
use Rattle.dash_model.specs.HartRows.{HartEffect}
use Rattle.dash_model.specs.Row.{row}
use Rattle.dash_model.specs.Guard.{Guard}

-- parts by cluster; messages in the order in which they were sent; bytes
pub record Machine : Type 0 where
  pub parts : ℕ → Part
  pub net : List Packet
  pub console : List ℕ

-- an event, with what its fields leave out: the stamp of the message that it took, and what its hart's instruction needed and made of the hart
pub record Step : Type 0 where
  pub event : Event
  pub stamp : ℕ
  pub done : HartEffect

-- the event of a step
abbrev pub event_of : Step → Event
event_of g = g.event

-- the cluster of a step
abbrev pub by : Step → ℕ
by g = g.event.cluster.0

-- the message that an event takes at cluster c, with the stamp u
abbrev pub taken : ℕ → ℕ → Kind → List Packet
taken c u (Take f m) = parcel f.0 c m u ∷ []
taken c u (Free f a) = parcel f.0 c (Unlock a.hart a.number a.word) u ∷ []
taken c u e = []

-- it is at the head of its lane
abbrev pub AtHead : List Packet → List Packet → Type 0
AtHead [] net = Unit {0}
AtHead (q ∷ qs) net = head q.src q.dst (class_of q.msg) net ≡ Some q

-- what is on its way without it
abbrev pub less : List Packet → List Packet → List Packet
less [] net = net
less (q ∷ qs) net = tail q.src q.dst (class_of q.msg) net

-- what is put on the console
abbrev pub puts : Kind → List ℕ
puts (Put h pc byte) = byte ∷ []
puts e = []

-- the rule of stamps: one more than the greater of the stamp of the cluster's last event, and of the message that is taken
abbrev pub stamp_of : List Packet → ℕ
stamp_of [] = 0
stamp_of (q ∷ qs) = q.stamp

-- the stamp after these two
abbrev pub next_stamp : ℕ → ℕ → ℕ
next_stamp last u = raised most (max last u)

-- cluster c's part after a step of it, and what it sends
abbrev pub part_after : Config → ℕ → Step → Part → Part
part_after w c g p = record (row w c g.event.kind g.done p).part { last = g.event.stamp }

-- what a step of cluster c sends
abbrev pub sends : Config → ℕ → Step → Part → List Packet
sends w c g p = map (packet g.event.stamp c) (row w c g.event.kind g.done p).sent

-- what a step of cluster c needs of its part
pub record Steps (w : Config) (c : ℕ) (g : Step) (p : Part) : Type 0 where
  pub cluster : g.event.cluster.0 ≡ c
  pub stamp : g.event.stamp ≡ next_stamp p.last (stamp_of (taken c g.stamp g.event.kind))
  pub guard : Guard w c g.event.kind g.done p

-- what it needs of the machine: beside that, that what it takes is at the head of its lane
pub record CanHappen (w : Config) (m : Machine) (g : Step) : Type 0 where
  pub cluster : g.event.cluster.0 < w.top.clusters
  pub head : AtHead (taken g.event.cluster.0 g.stamp g.event.kind) m.net
  pub steps : Steps w g.event.cluster.0 g (m.parts g.event.cluster.0)

-- the machine after a step
abbrev pub after : Config → Machine → Step → Machine
after w m g = record {
  parts = upd m.parts g.event.cluster.0 (part_after w g.event.cluster.0 g (m.parts g.event.cluster.0));
  net = send (less (taken g.event.cluster.0 g.stamp g.event.kind) m.net) g.event.stamp g.event.cluster.0 (row w g.event.cluster.0 g.event.kind g.done (m.parts g.event.cluster.0)).sent;
  console = m.console ++ puts g.event.kind;
}

-- how a run begins
abbrev pub opening : Config → Machine
opening w = record { parts = λ c. opening_part w; net = []; console = [] }

-- steps that can happen one after another, and the state that they lead to
abbrev pub AreSteps : Config → Machine → List Step → Type 0
AreSteps w m [] = Unit {0}
AreSteps w m (g ∷ gs) = CanHappen w m g × AreSteps w (after w m g) gs

-- the state that steps lead to
abbrev pub state_after : Config → Machine → List Step → Machine
state_after w m [] = m
state_after w m (g ∷ gs) = state_after w (after w m g) gs

-- the order of a log: by stamp, then by cluster
abbrev pub Precedes : Event → Event → Type 0
Precedes e f = (e.stamp < f.stamp) ⊎ ((e.stamp ≡ f.stamp) × (e.cluster.0 < f.cluster.0))

-- an event precedes each of these
abbrev pub PrecedesAll : Event → List Event → Type 0
PrecedesAll e [] = Unit {0}
PrecedesAll e (f ∷ fs) = Precedes e f × PrecedesAll e fs

-- each event precedes all that follow
abbrev pub IsRising : List Event → Type 0
IsRising [] = Unit {0}
IsRising (e ∷ es) = PrecedesAll e es × IsRising es

-- a log is a run of the machine: it rises, and its events are those of steps from the opening state
pub record IsRun (w : Config) (log : List Event) : Type 0 where
  pub steps : List Step
  pub events : map event_of steps ≡ log
  pub happen : AreSteps w (opening w) steps
  pub rising : IsRising log

-- a run of this log leads to this state
pub record Reaches (w : Config) (log : List Event) (m : Machine) : Type 0 where
  pub run : IsRun w log
  pub state : m ≡ state_after w (opening w) run.steps
