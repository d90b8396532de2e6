-- What becomes of each hart's caches.
use Rattle.std.specs.Prelude.{◌≡◌, ℕ, ◌<◌, ◌==◌, Bool, false, List, length, Option, Some, None, slice_index_or, if◌then◌else◌}
use Rattle.dash_base.specs.declared.line.Line.{Line}
use Rattle.cache_array.specs.View.{has_line, HasRoom}
use Rattle.snoop_bus.specs.Caches.{CachesView, caches_with, caches_without}
use Rattle.snoop_bus.specs.Shared.{gathered_copy}

-- each hart's caches are what a function by its number makes of them
pub record EachBecomes (f : ℕ → CachesView → CachesView) (old new : List CachesView) : Type 0 where
  pub as_many : length new ≡ length old
  pub each : (hart : ℕ) (d : CachesView) → hart < length old → slice_index_or new hart d ≡ f hart (slice_index_or old hart d)

-- a hart has room for a line
pub record HasRoomAt (hs : List CachesView) (hart line : ℕ) : Type 0 where
  pub room : (d : CachesView) → hart < length hs → HasRoom (slice_index_or hs hart d).levels.l2 line

-- a hart with a copy, where there is one and it has none
abbrev pub given : Option Line → ℕ → CachesView → CachesView
given None line h = h
given (Some copy) line h = if has_line h.levels.l2 line then h else caches_with h line copy false

-- one hart has the copy of the others too
abbrev pub joined : List CachesView → ℕ → ℕ → ℕ → CachesView → CachesView
joined hs hart line k h = if k == hart then given (gathered_copy hs line) line h else h

-- one hart has this copy of a line, and each other one lacks the line
abbrev pub taken : ℕ → ℕ → Line → Bool → ℕ → CachesView → CachesView
taken hart line copy own k h = if k == hart then caches_with h line copy own else caches_without h line

-- one hart lacks the line
abbrev pub dropped : ℕ → ℕ → ℕ → CachesView → CachesView
dropped hart line k h = if k == hart then caches_without h line else h
