-- Runs of one cluster by itself, the lanes between such runs, and their merge.
use Rattle.std.specs.Prelude.{◌≡◌, ℕ, ◌<◌, ◌≤◌, ◌==◌, cond, List, [], ◌∷◌, ◌++◌}
use Rattle.dash_msg.specs.declared.classes.Class.{Class}
use Rattle.dash_event.specs.declared.event.Event.{Event}
use Rattle.dash_model.specs.Maps.{most}
use Rattle.dash_model.specs.Config.{Config}
use Rattle.dash_model.specs.Net.{Packet, lane}
use Rattle.dash_model.specs.Part.{Part, opening_part}
use Rattle.dash_model.specs.Machine.{Step, by, taken, part_after, sends, Steps, opening, state_after, IsRun, IsRising}

-- steps of cluster c one after another from a part, whatever its lanes bring; and the part that they lead to
abbrev pub IsLocalRun : Config → ℕ → Part → List Step → Type 0
IsLocalRun w c p [] = Unit {0}
IsLocalRun w c p (g ∷ gs) = Steps w c g p × IsLocalRun w c (part_after w c g p) gs

-- the part that they lead to
abbrev pub part_at : Config → ℕ → Part → List Step → Part
part_at w c p [] = p
part_at w c p (g ∷ gs) = part_at w c (part_after w c g p) gs

-- all that it sends, in order; to one cluster and of one class it is a lane of this
unfoldable pub sent_in : Config → ℕ → Part → List Step → List Packet
sent_in w c p [] = []
sent_in w c p (g ∷ gs) = sends w c g p ++ sent_in w c (part_after w c g p) gs

-- all that it takes, in order
abbrev pub packets_taken : ℕ → Step → List Packet
packets_taken c g = taken c g.stamp g.event.kind

-- all that a cluster takes
unfoldable pub received_in : ℕ → List Step → List Packet
received_in c [] = []
received_in c (g ∷ gs) = packets_taken c g ++ received_in c gs

-- lanes are met: what was received of each begins what was sent, stamps included, and `left` is the rest
pub record LanesMeet (w : Config) (runs : ℕ → List Step) : Type 0 where
  pub left : ℕ → ℕ → Class → List Packet
  pub met : (a b : ℕ) (k : Class) → lane a b k (sent_in w a (opening_part w) (runs a)) ≡ lane a b k (received_in b (runs b)) ++ left a b k

-- the stamps stay below the greatest one: so each is above that of the event before, and of the message that is taken
abbrev pub StampsFit : List Step → Type 0
StampsFit [] = Unit {0}
StampsFit (g ∷ gs) = (g.event.stamp < most) × StampsFit gs

-- the steps of cluster c, and the events
unfoldable pub of_cluster : ℕ → List Step → List Step
of_cluster c [] = []
of_cluster c (g ∷ gs) = cond (by g == c) (g ∷ of_cluster c gs) (of_cluster c gs)

-- the events of cluster c
unfoldable pub events_of : ℕ → List Event → List Event
events_of c [] = []
events_of c (e ∷ es) = cond (e.cluster.0 == c) (e ∷ events_of c es) (events_of c es)

-- the merge of the logs of n clusters: all their events, each cluster's in its order, rising
pub record IsMergeOf (n : ℕ) (logs : ℕ → List Event) (es : List Event) : Type 0 where
  pub parts : (c : ℕ) → events_of c es ≡ logs c
  pub none : (c : ℕ) → n ≤ c → logs c ≡ []
  pub rising : IsRising es

-- the merge is a run, each cluster's part is as its own run left it, and each lane has the rest
pub record IsMergedRun (w : Config) (runs : ℕ → List Step) (left : ℕ → ℕ → Class → List Packet) (es : List Event) : Type 0 where
  pub run : IsRun w es
  pub parts : (c : ℕ) → (state_after w (opening w) run.steps).parts c ≡ part_at w c (opening_part w) (runs c)
  pub lanes : (a b : ℕ) (k : Class) → lane a b k (state_after w (opening w) run.steps).net ≡ left a b k
