-- The choices that serve one hart, and the one of them that a unit does.
use Rattle.std.specs.Prelude.{◌≡◌, ◌⊎◌, ℕ, ◌+◌, ◌<◌, Option, None, Some, List, [], ◌∷◌}
use Rattle.write_buffer.specs.declared.entry.Entry.{Entry as Stored}
use Rattle.dash_model.specs.Config.{Config}
use Rattle.dash_model.specs.Part.{Part}
use Rattle.dash_model.specs.Wants.{NeedsCopy, FrontNeed, StoreNeed}
use Rattle.unit_rows.specs.declared.choice.Choice.{Choice}
use Rattle.unit_rows.specs.declared.choice.Choice.TheVariants.{Step, Commit, BusRead, BusOwn, Evict, Ask}
use Rattle.unit_rows.specs.EvictFits.{Another, CanRead, CanWrite, CanStore}
use Rattle.unit_rows.specs.Rows.{Enabled}
use Rattle.unit_rows.specs.Shown.{hart_at}
use Rattle.cluster_unit.specs.declared.turn.Turn.{Turn}
use Rattle.cluster_unit.specs.declared.turn.Turn.TheVariants.{Did, Idle}
use Rattle.cluster_unit.specs.View.{CoreView}
use Rattle.cluster_unit.specs.Core.{IsAt}
use Rattle.cluster_unit.specs.Turns.{spent}
use Rattle.cluster_unit.specs.Choosing.{Performed}

-- line m is in the way of another line of its index, which hart k needs for its oldest store, or for its instruction, and which its cluster has
abbrev pub StoreRoom : Config → ℕ → ℕ → ℕ → Part → Type 0
StoreRoom w c k m p = Another w m (CanStore w (hart_at w c k)) p

abbrev pub FrontRoom : Config → ℕ → ℕ → ℕ → Part → Type 0
FrontRoom w c k m p = Another w m (CanRead w (hart_at w c k)) p ⊎ Another w m (CanWrite w (hart_at w c k)) p

-- what serves the oldest store of hart k of cluster c: to commit it, to own its line, to give up one in the way of its line, or to ask for its line by the store slot
abbrev pub ServesStore : Config → ℕ → ℕ → Choice → Part → Type 0
ServesStore w c k (Commit h) p = h ≡ k
ServesStore w c k (BusOwn h l) p = (h ≡ k) × StoreNeed w (hart_at w c k) l.0 p
ServesStore w c k (Evict h m) p = (h ≡ k) × StoreRoom w c k m.0 p
ServesStore w c k (Ask n) p = n ≡ k + w.top.harts
ServesStore w c k x p = ⊥

-- what serves its instruction: to do it, to read or to own its line, to give up one in the way of its line, or to ask for its line by the front slot
abbrev pub ServesFront : Config → ℕ → ℕ → Choice → Part → Type 0
ServesFront w c k (Step h) p = h ≡ k
ServesFront w c k (BusRead h l) p = (h ≡ k) × NeedsCopy w (hart_at w c k) l.0 p
ServesFront w c k (BusOwn h l) p = (h ≡ k) × FrontNeed w (hart_at w c k) l.0 p
ServesFront w c k (Evict h m) p = (h ≡ k) × FrontRoom w c k m.0 p
ServesFront w c k (Ask n) p = n ≡ k
ServesFront w c k x p = ⊥

-- the oldest store goes before the instruction
abbrev pub ServesAfter : Config → ℕ → ℕ → List Stored → Choice → Part → Type 0
ServesAfter w c k [] x p = ServesFront w c k x p
ServesAfter w c k (e ∷ es) x p = ServesStore w c k x p

abbrev pub Serves : Config → ℕ → ℕ → Choice → Part → Type 0
Serves w c k x p = ServesAfter w c k (p.harts (hart_at w c k)).buffer x p

-- their order
abbrev pub serial_place : Choice → ℕ
serial_place (Step h) = 0
serial_place (Commit h) = 0
serial_place (BusRead h l) = 1
serial_place (BusOwn h l) = 2
serial_place (Evict h m) = 3
serial_place (Ask n) = 4
serial_place x = 5

-- the choice is enabled and serves hart k, and none such stands before it
pub record IsFirstSerial (a : CoreView) (k : ℕ) (x : Choice) (p : Part) : Type 0 where
  pub able : Enabled a.config a.cluster x p
  pub serves : Serves a.config a.cluster k x p
  pub first : (y : Choice) → Enabled a.config a.cluster y p → Serves a.config a.cluster k y p → serial_place y < serial_place x → ⊥

-- this choice is the first, on the part that the log leads to; or there is none
abbrev pub FirstSerial : CoreView → ℕ → Option Choice → Type 0
FirstSerial a k None = (y : Choice) (p : Part) → IsAt a p → Enabled a.config a.cluster y p → Serves a.config a.cluster k y p → ⊥
FirstSerial a k (Some x) = (p : Part) → IsAt a p → IsFirstSerial a k x p

-- the first one was done
pub record SteppedOne (k : ℕ) (a b : CoreView) : Type 0 where
  pub choice : Choice
  pub first : FirstSerial a k (Some choice)
  pub done : Performed choice Did a b

-- it was done, or there is none, and nothing happened but that one turn was used
abbrev pub Stepped : ℕ → Turn → CoreView → CoreView → Type 0
Stepped k Did a b = SteppedOne k a b
Stepped k Idle a b = FirstSerial a k None × (b ≡ spent a)
