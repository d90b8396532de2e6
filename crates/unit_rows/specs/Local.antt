-- A cluster that ran by itself: its log, and the parts that its run left.
use Rattle.std.specs.Prelude.{◌≡◌, ℕ, List, map}
use Rattle.dash_event.specs.declared.event.Event.{Event}
use Rattle.dash_event.specs.declared.event.Kind.{Kind}
use Rattle.dash_model.specs.Config.{Config, cluster_id}
use Rattle.dash_model.specs.Net.{Packet}
use Rattle.dash_model.specs.Part.{opening_part}
use Rattle.dash_model.specs.Machine.{Step, event_of}
use Rattle.dash_model.specs.LocalRun.{IsLocalRun, part_at, sent_in, received_in}
use Rattle.unit_rows.specs.Shown.{PartsView, Shows}

-- the log of cluster c is that of a run of it by itself, to the parts and the last stamp that it has, which sent and took these messages
pub record IsLocal (w : Config) (c : ℕ) (v : PartsView) (log : List Event) (last : ℕ) (sent received : List Packet) : Type 0 where
  pub history : List Step
  pub events : map event_of history ≡ log
  pub ran : IsLocalRun w c (opening_part w) history
  pub shows : Shows w c v (part_at w c (opening_part w) history)
  pub last_is : (part_at w c (opening_part w) history).last ≡ last
  pub sent_is : sent_in w c (opening_part w) history ≡ sent
  pub received_is : received_in c history ≡ received

-- an event of cluster c
abbrev pub event_at : ℕ → ℕ → Kind → Event
event_at c stamp kind = record { stamp = stamp; cluster = cluster_id c; kind = kind }
