-- Where a run has come to its end, and its exit status.
use Rattle.std.specs.Prelude.{◌≡◌, ◌≢◌, ◌⊎◌, ℕ, ◌<◌, false, List, [], ◌∷◌}
use Rattle.dash_base.specs.declared.end.End.{End}
use Rattle.dash_base.specs.declared.end.End.TheVariants.{Running, Exited, Trapped}
use Rattle.dash_event.specs.declared.event.Event.{Event}
use Rattle.hart_core.specs.HartState.{is_running}
use Rattle.dash_model.specs.Config.{Config, all_harts, cluster_of, lock_home}
use Rattle.dash_model.specs.Cell.{NoSlot, NoAcks}
use Rattle.dash_model.specs.Part.{Processor, Waiter}
use Rattle.dash_model.specs.Machine.{Machine, Reaches}

-- a hart by its number
abbrev pub hart_at : Config → ℕ → Machine → Processor
hart_at w h m = (m.parts (cluster_of w h)).harts h

-- hart h is in a queue
abbrev pub IsQueued : ℕ → List Waiter → Type 0
IsQueued h [] = ⊥
IsQueued h (x ∷ xs) = (x.hart ≡ h) ⊎ IsQueued h xs

-- hart h waits: it is in the queue of a lock word that is not 0
pub record IsWaiting (w : Config) (h : ℕ) (m : Machine) : Type 0 where
  pub word : ℕ
  pub inside : word < w.top.locks
  pub queued : IsQueued h ((m.parts (lock_home w word)).locks word).queue
  pub taken : ((m.parts (lock_home w word)).locks word).value ≢ 0

-- hart h has spent its budget
pub record IsSpent (w : Config) (h : ℕ) (m : Machine) : Type 0 where
  pub running : (hart_at w h m).core.end ≡ Running
  pub all : (hart_at w h m).core.retired ≡ w.top.budget

-- hart h has ended, has spent its budget, or waits
pub data IsStopped (w : Config) (h : ℕ) (m : Machine) : Type 0 where
  Ended : is_running (hart_at w h m).core.end ≡ false → IsStopped w h m
  Spent : IsSpent w h m → IsStopped w h m
  Waits : IsWaiting w h m → IsStopped w h m

-- lanes, buffers, slots and acknowledgements are empty, and each hart stands
pub record IsComplete (w : Config) (m : Machine) : Type 0 where
  pub lanes : m.net ≡ []
  pub buffers : (h : ℕ) → h < all_harts w → (hart_at w h m).buffer ≡ []
  pub slots : (c l : ℕ) → c < w.top.clusters → ((m.parts c).cells l).slot ≡ NoSlot
  pub acks : (c l : ℕ) → c < w.top.clusters → ((m.parts c).cells l).acks ≡ NoAcks
  pub harts : (h : ℕ) → h < all_harts w → IsStopped w h m

-- a complete run of this log
pub record IsCompleteRun (w : Config) (log : List Event) : Type 0 where
  pub end : Machine
  pub reaches : Reaches w log end
  pub complete : IsComplete w end

-- some hart of the machine is so
pub record SomeHart (w : Config) (P : ℕ → Type 0) : Type 0 where
  pub hart : ℕ
  pub inside : hart < all_harts w
  pub holds : P hart

-- a trap was the end
abbrev pub DidTrap : End → Type 0
DidTrap (Trapped cause value) = Unit {0}
DidTrap Running = ⊥
DidTrap (Exited code) = ⊥

-- some hart trapped
abbrev pub SomeTrapped : Config → Machine → Type 0
SomeTrapped w m = SomeHart w (λ h. DidTrap (hart_at w h m).core.end)

-- some hart spent its budget
abbrev pub SomeSpent : Config → Machine → Type 0
SomeSpent w m = SomeHart w (λ h. IsSpent w h m)

-- some hart waits
abbrev pub SomeWaits : Config → Machine → Type 0
SomeWaits w m = SomeHart w (λ h. IsWaiting w h m)

-- the exit status of a complete run: 11 where some hart trapped, else 10 where some hart spent its budget, else 12 where some hart waits, else 0
pub data IsStatus (w : Config) (m : Machine) : ℕ → Type 0 where
  AfterTrap : SomeTrapped w m → IsStatus w m 11
  AfterBudget : (SomeTrapped w m → ⊥) → SomeSpent w m → IsStatus w m 10
  AfterWait : (SomeTrapped w m → ⊥) → (SomeSpent w m → ⊥) → SomeWaits w m → IsStatus w m 12
  AfterAll : (SomeTrapped w m → ⊥) → (SomeSpent w m → ⊥) → (SomeWaits w m → ⊥) → IsStatus w m 0
