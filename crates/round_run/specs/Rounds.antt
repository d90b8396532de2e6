-- What a round changes of a unit.
use Rattle.std.specs.Prelude.{◌≡◌, ℕ, ◌+◌, ◌*◌, ◌^◌, ◌<◌, ◌≤◌, min, List, length, slice_index_or}
use Rattle.dash_base.specs.declared.topology.Topology.{Topology}
use Rattle.round_run.specs.Units.{UnitView, IsSame}

-- it did so many turns, as far as they can be counted
pub record DidTurns (n : ℕ) (a b : UnitView) : Type 0 where
  pub same : IsSame a.core b.core
  pub turns : min b.turns 18446744073709551615 ≡ min (a.turns + n) 18446744073709551615
  pub steps : b.steps ≡ a.steps
  pub ahead : b.ahead ≡ a.ahead

-- it did the turns of a round
abbrev pub Worked : UnitView → UnitView → Type 0
Worked a b = DidTurns 256 a b

-- a unit stays the same unit, of the same machine, with the same ends of lanes
abbrev pub StaysSame : UnitView → UnitView → Type 0
StaysSame a b = IsSame a.core b.core

-- where the rounds can be counted, each unit had 256 turns in each, at most five other steps for each of its harts, and is not ahead
pub record IsCounted (t : Topology) (rounds : ℕ) (a : UnitView) : Type 0 where
  pub turns : a.turns ≡ 256 * rounds
  pub steps : a.steps ≤ 5 * t.harts * rounds
  pub ahead : a.ahead ≡ 0

abbrev pub AreCounted : {U : Type 0} → (U → UnitView) → Topology → ℕ → List U → Type 0
AreCounted {U} view t rounds us = rounds < 2 ^ 56 → (c : ℕ) (d : U) → c < length us → IsCounted t rounds (view (slice_index_or us c d))
