-- Where the units of a machine have nothing left to do, and why.
use Rattle.std.specs.Prelude.{◌≡◌, ◌⊎◌, ℕ, ◌+◌, ◌*◌, ◌<◌, Bool, true, false, List, length, slice_index_or}
use Rattle.dash_base.specs.declared.end.End.TheVariants.{Running}
use Rattle.dash_base.specs.declared.topology.Topology.{Topology}
use Rattle.hart_core.specs.HartState.{is_running}
use Rattle.dash_model.specs.Part.{Part, Processor}
use Rattle.dash_model.specs.Complete.{DidTrap}
use Rattle.unit_rows.specs.Shown.{hart_at}
use Rattle.cluster_unit.specs.View.{CoreView}
use Rattle.cluster_unit.specs.Core.{IsAt}
use Rattle.cluster_unit.specs.Quiet.{IsQuiet}
use Rattle.round_run.specs.Units.{UnitView}
use Rattle.round_run.specs.declared.rest.Rest.{Rest}
use Rattle.round_run.specs.declared.rest.Rest.TheVariants.{Trap, Spent, Asked}
use Rattle.round_run.specs.declared.finished.Cause.{Cause}
use Rattle.round_run.specs.declared.finished.Cause.TheVariants.{Exited, Budget, Trapped, Deadlock}

-- a hart that has spent its budget, and did not end
pub record HasSpent (t : Topology) (s : Processor) : Type 0 where
  pub running : s.core.end ≡ Running
  pub all : s.core.retired ≡ t.budget

-- a hart trapped, has spent its budget, or has sent its lock instruction
abbrev pub Has : Rest → Topology → Processor → Type 0
Has Trap t s = DidTrap s.core.end
Has Spent t s = HasSpent t s
Has Asked t s = s.asked ≡ true

-- a hart that ended, spent its budget, or asked for a lock word
abbrev pub IsStill : Topology → Processor → Type 0
IsStill t s = (is_running s.core.end ≡ false) ⊎ (Has Spent t s ⊎ Has Asked t s)

-- a unit whose slots, acknowledgements and buffers are empty, and whose harts are still
pub record IsOver (t : Topology) (a : CoreView) : Type 0 where
  pub quiet : (p : Part) → IsAt a p → IsQuiet a.config a.cluster p
  pub still : (p : Part) → IsAt a p → (k : ℕ) → k < t.harts → IsStill t (p.harts (hart_at a.config a.cluster k))

module _ {U : Type 0} (view : U → UnitView) where
  -- all units are so
  abbrev pub AreOver : Topology → List U → Type 0
  AreOver t us = (c : ℕ) (d : U) → c < length us → IsOver t (view (slice_index_or us c d)).core

  -- some hart is so
  pub record SomeHart (t : Topology) (P : Topology → Processor → Type 0) (us : List U) : Type 0 where
    pub cluster : ℕ
    pub number : ℕ
    pub low : cluster < length us
    pub below : number < t.harts
    pub holds : (d : U) (p : Part) → IsAt (view (slice_index_or us cluster d)).core p → P t (p.harts (hart_at (view (slice_index_or us cluster d)).core.config (view (slice_index_or us cluster d)).core.cluster number))

  -- no hart is
  abbrev pub NoHart : Topology → (Topology → Processor → Type 0) → List U → Type 0
  NoHart t P us = (c k : ℕ) (d : U) (p : Part) → c < length us → k < t.harts → IsAt (view (slice_index_or us c d)).core p
      → P t (p.harts (hart_at (view (slice_index_or us c d)).core.config (view (slice_index_or us c d)).core.cluster k)) → ⊥

  -- the cause for which they are over
  abbrev pub IsCause : Topology → List U → Cause → Type 0
  IsCause t us Trapped = SomeHart t (Has Trap) us
  IsCause t us Budget = NoHart t (Has Trap) us × SomeHart t (Has Spent) us
  IsCause t us Deadlock = NoHart t (Has Trap) us × (NoHart t (Has Spent) us × SomeHart t (Has Asked) us)
  IsCause t us Exited = NoHart t (Has Trap) us × (NoHart t (Has Spent) us × NoHart t (Has Asked) us)

  -- for each hart, by its number in the machine, whether its lock instruction was sent
  pub record TellsAsked (t : Topology) (us : List U) (waits : List Bool) : Type 0 where
    pub count : length waits ≡ length us * t.harts
    pub each : (c k : ℕ) (d : U) (p : Part) → c < length us → k < t.harts → IsAt (view (slice_index_or us c d)).core p
        → slice_index_or waits (c * t.harts + k) false ≡ (p.harts (hart_at (view (slice_index_or us c d)).core.config (view (slice_index_or us c d)).core.cluster k)).asked
