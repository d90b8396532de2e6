-- The steps that harts do alone, and how far they may be ahead of the turns.
use Rattle.std.specs.Prelude.{◌≡◌, ℕ, ◌+◌, ◌-◌, ◌*◌, ◌/◌, ◌==◌, ◌<◌, ◌≤◌, cond, max, min, List, length, slice_index_or}
use Rattle.round_run.specs.Units.{UnitView, IsSame}

-- a unit did at most so many steps; and it is not ahead where the turns allow all of them
pub record DidSteps (n : ℕ) (a b : UnitView) : Type 0 where
  pub same : IsSame a.core b.core
  pub turns : b.turns ≡ a.turns
  pub steps : b.steps ≤ a.steps + n
  pub ahead : a.ahead ≡ 0 → a.steps + n ≤ 5 * a.core.config.top.harts * (a.turns / 256) → b.ahead ≡ 0

-- a hart did at most n steps: its cluster did, and no other
abbrev pub tries_of : ℕ → ℕ → ℕ → ℕ → ℕ
tries_of harts n hart c = cond (hart / harts == c) n 0

-- how many of the harts from one number to another are of cluster c
abbrev pub harts_between : ℕ → ℕ → ℕ → ℕ → ℕ
harts_between harts from to c = min (c * harts + harts) to - max (c * harts) from

-- each of them did at most three
abbrev pub tries_between : ℕ → ℕ → ℕ → ℕ → ℕ
tries_between harts from to c = 3 * harts_between harts from to c

-- each unit did at most so many steps, by its cluster
pub record EachDid {U : Type 0} (view : U → UnitView) (n : ℕ → ℕ) (us vs : List U) : Type 0 where
  pub count : length vs ≡ length us
  pub each : (c : ℕ) (d : U) → c < length us → DidSteps (n c) (view (slice_index_or us c d)) (view (slice_index_or vs c d))
