-- Complete runs of small machines, in which every event and every message is there.
use Rattle.std.specs.Prelude.{◌≡◌, ℕ, ◌<◌, true, List, [], ◌∷◌, ◌++◌, map, flat_map}
use Rattle.dash_event.specs.declared.event.Event.{Event}
use Rattle.dash_event.specs.declared.event.Kind.{Kind}
use Rattle.dash_event.specs.declared.event.Kind.TheVariants as kind
use Rattle.dash_msg.specs.declared.msg.Msg.{Msg}
use Rattle.dash_msg.specs.declared.msg.Msg.TheVariants as msg
use Rattle.dash_model.specs.Maps.{member}
use Rattle.dash_model.specs.Config.{Config}
use Rattle.dash_model.specs.Complete.{IsCompleteRun, IsStatus}
use Rattle.dash_model.specs.ExampleLogs.{moving, sharing, invalidating, locking, waiting, trapping}

-- the twenty events, by their places in the table
abbrev pub event_number : Kind → ℕ
event_number (kind.Alu h pc) = 0
event_number (kind.Fence h pc) = 1
event_number (kind.Hint h pc slot) = 2
event_number (kind.Put h pc byte) = 3
event_number (kind.Stop h pc end) = 4
event_number (kind.Load a level) = 5
event_number (kind.Store a) = 6
event_number (kind.Commit h n l v) = 7
event_number (kind.Rmw a l v) = 8
event_number (kind.ScFail a) = 9
event_number (kind.LockSend h m) = 10
event_number (kind.BusRead h l) = 11
event_number (kind.BusOwn h l) = 12
event_number (kind.Evict h l) = 13
event_number (kind.Ask slot h l own) = 14
event_number (kind.Again slot l) = 15
event_number (kind.Install slot h l) = 16
event_number (kind.Grant a) = 17
event_number (kind.Free f a) = 18
event_number (kind.Take f m) = 19

-- the seventeen messages, likewise
abbrev pub message_number : Msg → ℕ
message_number (msg.Read l) = 0
message_number (msg.ReadEx l) = 1
message_number (msg.FwdRead l r) = 2
message_number (msg.FwdReadEx l r) = 3
message_number (msg.Inval l r) = 4
message_number (msg.WriteBack l d) = 5
message_number (msg.SharingBack l d r) = 6
message_number (msg.Transfer l r) = 7
message_number (msg.LockAsk h n word v) = 8
message_number (msg.Unlock h n word) = 9
message_number (msg.Data l d) = 10
message_number (msg.DataEx l d n) = 11
message_number (msg.Ack l) = 12
message_number (msg.TransferAck l) = 13
message_number (msg.Nak l) = 14
message_number (msg.LockGrant h) = 15
message_number (msg.UnlockAck h old) = 16

-- the message that an event takes from its lane; Free takes an Unlock
abbrev pub message_in : Kind → List ℕ
message_in (kind.Free f a) = message_number (msg.Unlock a.hart a.number a.word) ∷ []
message_in (kind.Take f m) = message_number m ∷ []
message_in k = []

-- every event is there
abbrev pub HasEveryEvent : List Kind → Type 0
HasEveryEvent kinds = (n : ℕ) → n < 20 → member n (map event_number kinds) ≡ true

-- every message is there
abbrev pub HasEveryMessage : List Kind → Type 0
HasEveryMessage kinds = (n : ℕ) → n < 17 → member n (flat_map message_in kinds) ≡ true

-- there is an image of which this happens in a complete run of so many clusters and harts in each, which has this exit status
pub record Example (clusters harts status : ℕ) (happens : List Kind) : Type 0 where
  pub config : Config
  pub log : List Event
  pub kinds : map (λ e. e.kind) log ≡ happens
  pub complete : IsCompleteRun config log
  pub clusters_are : config.top.clusters ≡ clusters
  pub harts_are : config.top.harts ≡ harts
  pub status_is : IsStatus config complete.end status

-- what happens in all of them
abbrev pub all_kinds : List Kind
all_kinds = moving ++ sharing ++ invalidating ++ locking ++ waiting ++ trapping

-- the runs; each event and each message is in one of them, and so is each exit status of a complete run
pub record ExampleRuns : Type 0 where
  pub a_line_moves : Example 2 1 10 moving
  pub a_cluster_shares : Example 1 2 10 sharing
  pub a_copy_is_invalidated : Example 2 1 10 invalidating
  pub a_lock_word_is_taken : Example 1 1 0 locking
  pub a_hart_waits : Example 1 1 12 waiting
  pub a_hart_traps : Example 1 1 11 trapping
  pub events : HasEveryEvent all_kinds
  pub messages : HasEveryMessage all_kinds
