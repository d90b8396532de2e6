-- What is on its way between the units of a machine, and left to settle at them, by weights.
use Rattle.std.specs.Prelude.{ℕ, ◌+◌, ◌-◌, ◌<◌, ◌≤◌, Bool, true, false, IsTrue, IsFalse, Option, None, Some, List, length, slice_get, slice_index_or}
use Rattle.dash_model.specs.Maps.{total}
use Rattle.cluster_unit.specs.declared.turn.Turn.{Turn}
use Rattle.cluster_unit.specs.declared.turn.Turn.TheVariants.{Did, Idle}
use Rattle.cluster_unit.specs.View.{CoreView}
use Rattle.cluster_unit.specs.Weight.{went_out, came_in, IsLighter}
use Rattle.round_run.specs.Units.{UnitView, HasCounts, OnlyMet, NoneToGrant, ShowsNone, Each}

-- what is left at a core, with what went out, less what came in, is no more than it was
abbrev pub IsNoHeavier : CoreView → CoreView → Type 0
IsNoHeavier a b =
    went_out a.config.top.clusters b.outlets + b.weight + came_in a.config.top.clusters a.inlets
    ≤ went_out a.config.top.clusters a.outlets + a.weight + came_in a.config.top.clusters b.inlets

-- a unit may have settled further, and counts as it did
pub record IsEased (a b : UnitView) : Type 0 where
  pub counts : HasCounts a b
  pub weight : IsNoHeavier a.core b.core

-- where it had nothing to do, it is as it was, and no lane into it shows a message
pub record Rests (a b : UnitView) : Type 0 where
  pub same : OnlyMet a b
  pub granted : NoneToGrant b.core
  pub shows : ShowsNone b.core

-- whether a turn did nothing
abbrev pub is_idle : Turn → Bool
is_idle Did = false
is_idle Idle = true

-- it settled, or had nothing to do
pub record SettledBy (idle : Bool) (a b : UnitView) : Type 0 where
  pub did : IsFalse idle → IsLighter a.core b.core
  pub rests : IsTrue idle → Rests a b

module _ {U : Type 0} (view : U → UnitView) where
  -- what a unit has left, with what it sent; and what it received; in a machine of n clusters
  abbrev pub given_by : ℕ → Option U → ℕ
  given_by n None = 0
  given_by n (Some u) = went_out n (view u).core.outlets + (view u).core.weight

  abbrev pub taken_by : ℕ → Option U → ℕ
  taken_by n None = 0
  taken_by n (Some u) = came_in n (view u).core.inlets

  -- of all units
  unfoldable pub given : ℕ → List U → ℕ
  given n us = total (λ c. given_by n (slice_get us c)) (length us)

  unfoldable pub received : ℕ → List U → ℕ
  received n us = total (λ c. taken_by n (slice_get us c)) (length us)

  -- what is on its way, and left
  abbrev pub weight_among : ℕ → List U → ℕ
  weight_among n us = given n us - received n us

  -- one of the units settled further
  pub record OneSettled (us vs : List U) : Type 0 where
    pub place : ℕ
    pub low : place < length us
    pub lighter : (d : U) → IsLighter (view (slice_index_or us place d)).core (view (slice_index_or vs place d)).core

  -- one did, or none had anything to do
  pub record AllSettledBy (idle : Bool) (us vs : List U) : Type 0 where
    pub did : IsFalse idle → OneSettled us vs
    pub rest : IsTrue idle → Each view Rests us vs
