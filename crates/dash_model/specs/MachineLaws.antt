-- What the laws of the machine say.
use Rattle.std.specs.Prelude.{◌≡◌, ◌≢◌, ◌⊎◌, ℕ, ◌+◌, ◌<◌, ◌≤◌, Some, List, [], ◌∷◌, ◌++◌, map}
use Rattle.dash_msg.specs.Classes.{class_of}
use Rattle.dash_msg.specs.declared.classes.Class.{Class}
use Rattle.dash_msg.specs.declared.parcel.Sent.{Sent}
use Rattle.dash_event.specs.declared.event.Event.{Event}
use Rattle.dash_event.specs.declared.event.Kind.TheVariants.{Commit, Rmw}
use Rattle.dash_base.specs.declared.id.HartId.{HartId}
use Rattle.dash_base.specs.declared.id.LineId.{LineId}
use Rattle.dash_event.specs.declared.access.Access.{Access}
use Rattle.dash_event.specs.declared.access.Seen.TheVariants.{Line}
use Rattle.dash_model.specs.History.{version_of}
use Rattle.dash_model.specs.Config.{Config}
use Rattle.dash_model.specs.Net.{Packet, packet, lane, head, tail, first, rest, send}
use Rattle.dash_model.specs.Part.{Part, opening_part}
use Rattle.dash_model.specs.Machine.{Machine, Step, stamp_of, Steps, event_of, part_after, taken, less, sends, puts, CanHappen, after, IsRun, Reaches}
use Rattle.dash_model.specs.LocalRun.{IsLocalRun, part_at, sent_in, packets_taken, received_in, LanesMeet, StampsFit, IsMergeOf, IsMergedRun}

-- two steps of one event make one machine of a machine, and two runs of one log reach one state
abbrev pub EventsFixEffects : Type 0
EventsFixEffects =
    ((w : Config) (m : Machine) (g h : Step) → g.event ≡ h.event → CanHappen w m g → CanHappen w m h → after w m g ≡ after w m h)
    × ((w : Config) (log : List Event) (m n : Machine) → Reaches w log m → Reaches w log n → m ≡ n)

-- a lane as a queue: its head is its first, without the head is its rest, and what is sent joins its end; another lane is left
pub record IsQueue (a b : ℕ) (k : Class) (net : List Packet) : Type 0 where
  pub head_is : head a b k net ≡ first (lane a b k net)
  pub tail_is : lane a b k (tail a b k net) ≡ rest (lane a b k net)
  pub tail_of_other : (c d : ℕ) (j : Class) → ((c ≡ a) × (d ≡ b) × (j ≡ k) → ⊥) → lane a b k (tail c d j net) ≡ lane a b k net
  pub joins : (t c : ℕ) (ss : List Sent) → lane a b k (send net t c ss) ≡ lane a b k net ++ lane a b k (map (packet t c) ss)

-- each lane is a queue
abbrev pub LanesAreQueues : Type 0
LanesAreQueues = (a b : ℕ) (k : Class) (net : List Packet) → IsQueue a b k net

-- the one message that a step takes is the head of its lane, which ends at the step's cluster
pub record TakesHead (w : Config) (m : Machine) (g : Step) : Type 0 where
  pub parcel : Packet
  pub only : taken g.event.cluster.0 g.stamp g.event.kind ≡ parcel ∷ []
  pub to_it : parcel.dst ≡ g.event.cluster.0
  pub is_head : head parcel.src parcel.dst (class_of parcel.msg) m.net ≡ Some parcel

-- what a step changes of the machine
pub record ChangesOnePart (w : Config) (m : Machine) (g : Step) : Type 0 where
  pub parts : (c : ℕ) → c ≢ g.event.cluster.0 → (after w m g).parts c ≡ m.parts c
  pub takes : (taken g.event.cluster.0 g.stamp g.event.kind ≡ []) ⊎ TakesHead w m g
  pub lanes : (a b : ℕ) (k : Class) → lane a b k (after w m g).net ≡ lane a b k (less (taken g.event.cluster.0 g.stamp g.event.kind) m.net) ++ lane a b k (sends w g.event.cluster.0 g (m.parts g.event.cluster.0))
  pub others : (a b : ℕ) (k : Class) → a ≢ g.event.cluster.0 → lane a b k (sends w g.event.cluster.0 g (m.parts g.event.cluster.0)) ≡ []
  pub console : (after w m g).console ≡ m.console ++ puts g.event.kind

-- each step does so
abbrev pub StepsChangeOnePart : Type 0
StepsChangeOnePart = (w : Config) (m : Machine) (g : Step) → CanHappen w m g → ChangesOnePart w m g

-- each step's stamp stands so to that of the step before it, and to that of the message that it takes
abbrev pub StampsFrom : (ℕ → ℕ → Type 0) → ℕ → ℕ → List Step → Type 0
StampsFrom is_before c last [] = Unit {0}
StampsFrom is_before c last (g ∷ gs) =
    is_before last g.event.stamp × is_before (stamp_of (taken c g.stamp g.event.kind)) g.event.stamp × StampsFrom is_before c g.event.stamp gs

-- the stamps of a cluster's own run rise where they stay below the greatest one, and never fall
pub record StampsOf (c last : ℕ) (gs : List Step) : Type 0 where
  pub rise : StampsFit gs → StampsFrom ◌<◌ c last gs
  pub never_fall : StampsFrom ◌≤◌ c last gs

-- those of each do so
abbrev pub StampsRise : Type 0
StampsRise = (w : Config) (c : ℕ) (p : Part) (gs : List Step) → IsLocalRun w c p gs → StampsOf c p.last gs

-- one step more at the end of a local run
pub record Grows (w : Config) (c : ℕ) (p : Part) (gs : List Step) (g : Step) : Type 0 where
  pub run : IsLocalRun w c p (gs ++ g ∷ [])
  pub part : part_at w c p (gs ++ g ∷ []) ≡ part_after w c g (part_at w c p gs)
  pub sent : sent_in w c p (gs ++ g ∷ []) ≡ sent_in w c p gs ++ sends w c g (part_at w c p gs)
  pub received : received_in c (gs ++ g ∷ []) ≡ received_in c gs ++ packets_taken c g

-- each step that the part allows does so
abbrev pub LocalRunsGrow : Type 0
LocalRunsGrow = (w : Config) (c : ℕ) (p : Part) (gs : List Step) (g : Step) → IsLocalRun w c p gs → Steps w c g (part_at w c p gs) → Grows w c p gs g

-- the merge of local runs whose lanes are met, and whose stamps stay below the greatest, is a run
abbrev pub MergesAreRuns : Type 0
MergesAreRuns = (w : Config) (runs : ℕ → List Step) (es : List Event)
    → ((c : ℕ) → IsLocalRun w c (opening_part w) (runs c)) → (l : LanesMeet w runs) → ((c : ℕ) → StampsFit (runs c))
    → IsMergeOf w.top.clusters (λ c. map event_of (runs c)) es → IsMergedRun w runs l.left es

-- an event happens in a state that the events before it lead to
pub record HappensAfter (w : Config) (before : List Event) (e : Event) : Type 0 where
  pub state : Machine
  pub step : Step
  pub is : step.event ≡ e
  pub reached : Reaches w before state
  pub can : CanHappen w state step

-- each event of a run does; so the events before it are a run too
abbrev pub EventsHappen : Type 0
EventsHappen = (w : Config) (before rest : List Event) (e : Event) → IsRun w (before ++ (e ∷ rest)) → HappensAfter w before e

-- a commit makes the version after the line's, and an atomic operation is shown the line's
abbrev pub CommitsAreNumbered : Type 0
CommitsAreNumbered =
    ((w : Config) (before rest : List Event) (e : Event) (h : HartId) (n : ℕ) (k : LineId) (v : ℕ)
    → IsRun w (before ++ (e ∷ rest)) → e.kind ≡ Commit h n k v → v ≡ version_of before k.0 + 1)
    × ((w : Config) (before rest : List Event) (e : Event) (a : Access) (k : LineId) (v : ℕ)
    → IsRun w (before ++ (e ∷ rest)) → e.kind ≡ Rmw a k v
    → (v ≡ version_of before k.0 + 1) × (a.seen ≡ Line (version_of before k.0)))
