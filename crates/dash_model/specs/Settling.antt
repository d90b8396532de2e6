-- The events by which a machine settles: each lowers its weight, and none asks for a line.
use Rattle.std.specs.Prelude.{◌≡◌, ◌≢◌, ℕ, ◌%◌, ◌<◌, List}
use Rattle.dash_msg.specs.declared.msg.Msg.{Msg}
use Rattle.dash_msg.specs.declared.msg.Msg.TheVariants.{Read, ReadEx}
use Rattle.dash_event.specs.declared.event.Event.{Event}
use Rattle.dash_event.specs.declared.event.Kind.{Kind}
use Rattle.dash_event.specs.declared.event.Kind.TheVariants.{Evict, Install, Grant, Free, Take}
use Rattle.dash_model.specs.Config.{Config}
use Rattle.dash_model.specs.Net.{Packet}
use Rattle.dash_model.specs.Cell.{Asked, Slot, Reads, Owns}
use Rattle.dash_model.specs.Part.{Part}
use Rattle.dash_model.specs.Wants.{CameFor}
use Rattle.dash_model.specs.LineFacts.{cell_at, IsOnItsWay}
use Rattle.dash_model.specs.Machine.{Machine, Step, sends, CanHappen, after, Reaches}
use Rattle.dash_model.specs.Weight.{weight_of}

-- line l is in the way of another line of its index, which came to a slot of hart h
pub record IsInTheWay (w : Config) (h l : ℕ) (p : Part) : Type 0 where
  pub other : ℕ
  pub differs : other ≢ l
  pub index : other % w.top.l2 ≡ l % w.top.l2
  pub came : CameFor h (p.cells other).slot

-- the machine settles by what happens at a cluster: a message is taken or an Unlock served, a lock word is granted, a line that came is installed, or what is in its way evicted
abbrev pub SettlesBy : Config → Kind → Part → Type 0
SettlesBy w (Take f m) p = Unit {0}
SettlesBy w (Free f a) p = Unit {0}
SettlesBy w (Grant a) p = Unit {0}
SettlesBy w (Install slot h l) p = Unit {0}
SettlesBy w (Evict h l) p = IsInTheWay w h.0 l.0 p
SettlesBy w e p = ⊥

-- a slot has asked, and waits for its answer
abbrev pub HasAsked : Slot → Type 0
HasAsked (Reads n h Asked) = Unit {0}
HasAsked (Owns n h Asked) = Unit {0}
HasAsked slot = ⊥

-- a message asks for a line
abbrev pub AsksForLine : Msg → Type 0
AsksForLine (Read l) = Unit {0}
AsksForLine (ReadEx l) = Unit {0}
AsksForLine msg = ⊥

-- the weight is less after a step; a slot that has asked then had asked before, so no refused one asks again; and what is sent asks for no line
pub record LowersWeight (w : Config) (m : Machine) (g : Step) : Type 0 where
  pub weight : weight_of w (after w m g) < weight_of w m
  pub slots : (c l : ℕ) → HasAsked (cell_at l (after w m g) c).slot → (cell_at l m c).slot ≡ (cell_at l (after w m g) c).slot
  pub sent : (q : Packet) → IsOnItsWay q (sends w g.event.cluster.0 g (m.parts g.event.cluster.0)) → AsksForLine q.msg → ⊥

-- in every run each event by which the machine settles does so
abbrev pub WeightFalls : Type 0
WeightFalls = (w : Config) (log : List Event) (m : Machine) (g : Step) → Reaches w log m → CanHappen w m g → SettlesBy w g.event.kind (m.parts g.event.cluster.0) → LowersWeight w m g
