-- The choices by which a cluster settles, and the one of them that a unit does.
use Rattle.std.specs.Prelude.{◌≡◌, ◌⊎◌, ℕ, ◌<◌, Option, None, Some}
use Rattle.dash_model.specs.Config.{Config}
use Rattle.dash_model.specs.Part.{Part}
use Rattle.dash_model.specs.Settling.{IsInTheWay}
use Rattle.unit_rows.specs.declared.choice.Choice.{Choice}
use Rattle.unit_rows.specs.declared.choice.Choice.TheVariants.{Evict, Install, Grant, Take}
use Rattle.unit_rows.specs.Shown.{hart_at}
use Rattle.cluster_unit.specs.declared.turn.Turn.{Turn}
use Rattle.cluster_unit.specs.declared.turn.Turn.TheVariants.{Did, Idle}
use Rattle.cluster_unit.specs.View.{CoreView}
use Rattle.cluster_unit.specs.Ends.{Looked}
use Rattle.cluster_unit.specs.Order.{number_in, IsSooner}
use Rattle.cluster_unit.specs.Core.{IsAt}
use Rattle.cluster_unit.specs.Turns.{spent}
use Rattle.cluster_unit.specs.Choosing.{MayDo, Performed}

-- cluster c settles by a choice: to take a message, to grant a lock word, to install a line that came, or to give up one that is in the way of such a line
abbrev pub IsSettling : Config → ℕ → Choice → Part → Type 0
IsSettling w c (Take f k) p = Unit {0}
IsSettling w c (Grant i) p = Unit {0}
IsSettling w c (Install n) p = Unit {0}
IsSettling w c (Evict k l) p = IsInTheWay w (hart_at w c k) l.0 p
IsSettling w c x p = ⊥

-- their order: messages, lock words, slots, and lines in the way
abbrev pub settling_place : Choice → ℕ
settling_place (Take f k) = 1
settling_place (Grant i) = 2
settling_place (Install n) = 3
settling_place (Evict k l) = 4
settling_place x = 5

-- and within a kind as all choices stand
abbrev pub SettlesBefore : Config → ℕ → Part → Choice → Choice → Type 0
SettlesBefore w c p x y =
    (settling_place x < settling_place y)
    ⊎ ((settling_place x ≡ settling_place y) × ((number_in x < number_in y) ⊎ ((number_in x ≡ number_in y) × IsSooner w c p x y)))

-- the choice may be done, the cluster settles by it, and no such choice stands before it
pub record IsFirstToSettle (a : CoreView) (x : Choice) (p : Part) : Type 0 where
  pub may : MayDo a x p
  pub settles : IsSettling a.config a.cluster x p
  pub first : (y : Choice) → MayDo a y p → IsSettling a.config a.cluster y p → SettlesBefore a.config a.cluster p y x → ⊥

-- this choice is the first, on the part that the log leads to; or there is none
abbrev pub FirstToSettle : CoreView → Option Choice → Type 0
FirstToSettle a None = (y : Choice) (p : Part) → IsAt a p → MayDo a y p → IsSettling a.config a.cluster y p → ⊥
FirstToSettle a (Some x) = (p : Part) → IsAt a p → IsFirstToSettle a x p

-- the first one was done
pub record SettledOne (a b : CoreView) : Type 0 where
  pub choice : Choice
  pub first : FirstToSettle a (Some choice)
  pub done : Performed choice Did a b

-- it was done, or there is none, and nothing happened but that one turn was used
abbrev pub Settled : Turn → CoreView → CoreView → Type 0
Settled Did a b = SettledOne a b
Settled Idle a b = FirstToSettle a None × (b ≡ spent a)

-- so it was after the core was looked at, and was this
pub record Settles (t : Turn) (a b : CoreView) : Type 0 where
  pub seen : CoreView
  pub same : seen ≡ record a { inlets = seen.inlets }
  pub looked : Looked a.inlets seen.inlets
  pub settled : Settled t seen b
