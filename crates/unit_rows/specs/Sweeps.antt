-- What becomes of the reservations of harts that lose a line.
use Rattle.std.specs.Prelude.{◌≡◌, ℕ, ◌<◌, ◌==◌, ◌&&◌, Bool, not, cond, Option, Some, None, List, length, slice_index_or}
use Rattle.dash_base.specs.declared.id.WordAddr.{WordAddr}
use Rattle.snoop_bus.specs.Holding.{has_hart}
use Rattle.dash_model.specs.Config.{Config, line_at}
use Rattle.unit_rows.specs.declared.parts.Local.{Local}

-- a reservation, unless it is of a word in the line
abbrev pub unreserved_word : Config → ℕ → Option WordAddr → Option WordAddr
unreserved_word w l None = None
unreserved_word w l (Some a) = cond (line_at w a.0 == l) None (Some a)

-- whether a hart was a holder, and is none now
abbrev pub is_lost : ℕ → ℕ → ℕ → Bool
is_lost before after k = has_hart before k && not (has_hart after k)

-- a hart, which has lost the line or has not
abbrev pub swept : Config → ℕ → Bool → Local → Local
swept w l lost x = cond lost (record x { reserved = unreserved_word w l x.reserved }) x

-- each hart that was a holder and is none now has no reservation in the line
pub record AreSwept (w : Config) (l before after : ℕ) (old new : List Local) : Type 0 where
  pub count : length new ≡ length old
  pub each : (k : ℕ) (d : Local) → k < length old → slice_index_or new k d ≡ swept w l (is_lost before after k) (slice_index_or old k d)
