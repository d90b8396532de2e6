-- What each local run keeps of its cluster's weight, and of those who wait for its lock words.
use Rattle.std.specs.Prelude.{◌≡◌, ◌≢◌, ℕ, ◌+◌, ◌<◌, List, [], ◌∷◌}
use Rattle.dash_model.specs.Maps.{weigh}
use Rattle.dash_model.specs.Config.{Config, lock_home}
use Rattle.dash_model.specs.Net.{Packet}
use Rattle.dash_model.specs.Part.{Part, opening_part}
use Rattle.dash_model.specs.Machine.{Step, part_after, sends, Steps}
use Rattle.dash_model.specs.LocalRun.{IsLocalRun, part_at, packets_taken, received_in}
use Rattle.dash_model.specs.Weight.{packet_weight, part_weight}
use Rattle.dash_model.specs.Settling.{SettlesBy}

-- each of these messages came from one of n clusters
abbrev pub ComeFrom : ℕ → List Packet → Type 0
ComeFrom n [] = Unit {0}
ComeFrom n (q ∷ qs) = (q.src < n) × ComeFrom n qs

-- what a cluster has left to settle, and what is on its way, together weigh less after a step than before: what it sends and leaves, beside what it takes and had
abbrev pub Lightens : Config → ℕ → Part → Step → Type 0
Lightens w c p g = weigh (packet_weight w.top.clusters) (sends w c g p) + part_weight w (part_after w c g p) < weigh (packet_weight w.top.clusters) (packets_taken c g) + part_weight w p

-- wherever a local run leads that took messages from clusters of the machine alone, each event by which the cluster settles does so
abbrev pub LocalWeightsFall : Type 0
LocalWeightsFall = (w : Config) (c : ℕ) (gs : List Step) (g : Step) → IsLocalRun w c (opening_part w) gs → ComeFrom w.top.clusters (received_in c gs)
    → Steps w c g (part_at w c (opening_part w) gs) → SettlesBy w g.event.kind (part_at w c (opening_part w) gs) → Lightens w c (part_at w c (opening_part w) gs) g

-- in a local run nobody waits at a cluster for a lock word of another home
abbrev pub LocalRunsQueueAtHome : Type 0
LocalRunsQueueAtHome = (w : Config) (c : ℕ) (gs : List Step) (i : ℕ) → IsLocalRun w c (opening_part w) gs → c ≢ lock_home w i → ((part_at w c (opening_part w) gs).locks i).queue ≡ []
