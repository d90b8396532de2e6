-- Which of its choices a unit does, and how it counts.
use Rattle.std.specs.Prelude.{◌≡◌, ℕ, ◌+◌, ◌-◌, ◌*◌, ◌/◌, ◌%◌, ◌<◌, max, min, Option, None, Some, List, length}
use Rattle.arbiter.specs.declared.arbitration.Plan.{Plan}
use Rattle.arbiter.specs.declared.arbitration.Plan.TheVariants.{Unknown, Retire, At}
use Rattle.unit_rows.specs.declared.choice.Choice.{Choice}
use Rattle.cluster_unit.specs.declared.turn.Turn.{Turn}
use Rattle.cluster_unit.specs.declared.turn.Turn.TheVariants.{Did, Idle}
use Rattle.cluster_unit.specs.View.{CoreView}
use Rattle.cluster_unit.specs.Choosing.{Chose}

-- the number that is picked of n, by what is told of the box, or in rotation where there is none; a box that retires leaves the first
abbrev pub IsPicked : Option Plan → ℕ → ℕ → ℕ → Type 0
IsPicked None rotate n i = i ≡ rotate % n
IsPicked (Some Unknown) rotate n i = i < n
IsPicked (Some Retire) rotate n i = i ≡ 0
IsPicked (Some (At k)) rotate n i = i ≡ k % n

-- a turn: the choices are listed, one is picked, and it is done
pub record Turned (plan : Option Plan) (rotate : ℕ) (choices : List Choice) (t : Turn) (a b : CoreView) : Type 0 where
  pub number : ℕ
  pub picked : 0 < length choices → IsPicked plan rotate (length choices) number
  pub chose : Chose number choices t a b

-- one more, as far as the code can count
abbrev pub counted : ℕ → ℕ
counted n = min (n + 1) 18446744073709551615

-- steps count where something was done
abbrev pub steps_after : Turn → ℕ → ℕ
steps_after Did steps = counted steps
steps_after Idle steps = steps

-- by how much steps passed five for each hart and round of turns, at most so far
abbrev pub ahead_after : Turn → ℕ → ℕ → ℕ → ℕ → ℕ
ahead_after Did harts turns steps ahead = max ahead (steps - 5 * harts * (turns / 256))
ahead_after Idle harts turns steps ahead = ahead
