-- What a unit's core keeps: its log is a run of its cluster by itself, whatever its lanes brought.
use Rattle.std.specs.Prelude.{◌≡◌, ℕ, ◌+◌, ◌*◌, ◌^◌, ◌<◌, ◌≤◌, List, length, map}
use Rattle.dash_model.specs.Net.{Packet}
use Rattle.dash_model.specs.Part.{Part, opening_part}
use Rattle.dash_model.specs.Machine.{Step, event_of}
use Rattle.dash_model.specs.Weight.{part_weight}
use Rattle.dash_model.specs.LocalRun.{IsLocalRun, part_at, sent_in, received_in}
use Rattle.unit_rows.specs.Shown.{PartsView, AreSized}
use Rattle.unit_rows.specs.Local.{IsLocal}
use Rattle.unit_rows.specs.Left.{weight_left}
use Rattle.cluster_unit.specs.View.{CoreView}
use Rattle.cluster_unit.specs.Ends.{Carry, AreOfClass, Brought, NoneBeyond, HaveSpare}

-- its log is that of a local run of its cluster; its lanes carry what that run sent, and brought what it took, where they brought messages of their class; it took nothing from what is no cluster of the machine; and it has two lanes to each cluster, and two from each
pub record HasRun (a : CoreView) : Type 0 where
  pub history : List Step
  pub events : map event_of history ≡ a.log
  pub ran : IsLocalRun a.config a.cluster (opening_part a.config) history
  pub carry : Carry a.config.top.clusters a.cluster (sent_in a.config a.cluster (opening_part a.config) history) a.outlets
  pub brought : AreOfClass a.config.top.clusters a.inlets → Brought a.config.top.clusters a.cluster (received_in a.cluster history) a.inlets
  pub sources : NoneBeyond a.config.top.clusters (received_in a.cluster history)
  pub outlets : length a.outlets ≡ 2 * a.config.top.clusters
  pub inlets : length a.inlets ≡ 2 * a.config.top.clusters

-- the part of the machine that its log leads to
pub record IsAt (a : CoreView) (p : Part) : Type 0 where
  pub history : List Step
  pub events : map event_of history ≡ a.log
  pub ran : IsLocalRun a.config a.cluster (opening_part a.config) history
  pub part : p ≡ part_at a.config a.cluster (opening_part a.config) history

-- its weight is that of the part that its log leads to
abbrev pub IsWeighed : CoreView → Type 0
IsWeighed a = (p : Part) → IsAt a p → a.weight ≡ part_weight a.config p

-- its parts show that part, and have its weight; and there is memory for each turn that is reserved: an event, and at most 17 messages by a lane
pub record IsCore (v : PartsView) (last : ℕ) (a : CoreView) (capacity : ℕ) : Type 0 where
  pub sent : List Packet
  pub received : List Packet
  pub local : IsLocal a.config a.cluster v a.log last sent received
  pub weight : a.weight ≡ weight_left a.config a.cluster v
  pub carry : Carry a.config.top.clusters a.cluster sent a.outlets
  pub brought : AreOfClass a.config.top.clusters a.inlets → Brought a.config.top.clusters a.cluster received a.inlets
  pub sources : NoneBeyond a.config.top.clusters received
  pub sized : AreSized a.config a.cluster v
  pub mine : a.cluster < a.config.top.clusters
  pub outlets : length a.outlets ≡ 2 * a.config.top.clusters
  pub inlets : length a.inlets ≡ 2 * a.config.top.clusters
  pub spare : HaveSpare (17 * a.reserved) a.outlets
  pub room : length a.log + a.reserved ≤ capacity
  pub short : length a.log + a.reserved < 2 ^ 56
