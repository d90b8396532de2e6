-- The caches of all harts as one map.
use Rattle.std.specs.Prelude.{◌≡◌, ℕ, ◌+◌, ◌*◌, ◌<◌, ◌≤◌, Bool, false, List, [], ◌∷◌, ◌++◌, length, map, Option, Some, None, option_map, slice_index_or, if◌then◌else◌}
use Rattle.std.specs.Ordering.{nat_cmp}
use Rattle.std.specs.FinMap as fin
use Rattle.std.specs.FinMap.{FinMap}
use Rattle.dash_base.specs.declared.line.Line.{Line}
use Rattle.cache_array.specs.View.{copy_at, has_line, IsOnePerIndex}
use Rattle.cache_levels.specs.View.{IsPartOfL2}
use Rattle.snoop_bus.specs.Caches.{CachesView, owns}
use Rattle.snoop_bus.specs.Holding.{Holding, has_hart, is_owner, IsProper}
use Rattle.snoop_bus.specs.View.{BusView}

-- the copy that one hart has of a line
abbrev pub hart_copy : CachesView → ℕ → Option Line
hart_copy h line = copy_at h.levels.l2 line

-- the harts that hold a line, as bits
abbrev pub gathered_holders : List CachesView → ℕ → ℕ
gathered_holders [] line = 0
gathered_holders (h ∷ hs) line = (if has_line h.levels.l2 line then 1 else 0) + 2 * gathered_holders hs line

-- the first hart from this number on that owns a line
abbrev pub gathered_owner : ℕ → List CachesView → ℕ → Option ℕ
gathered_owner from [] line = None
gathered_owner from (h ∷ hs) line = if owns h line then Some from else gathered_owner (from + 1) hs line

-- the copy of the first hart that holds a line
abbrev pub gathered_copy : List CachesView → ℕ → Option Line
gathered_copy [] line = None
gathered_copy (h ∷ hs) line = if has_line h.levels.l2 line then hart_copy h line else gathered_copy hs line

unfoldable pub gathered : List CachesView → ℕ → Option Holding
gathered hs line =
    option_map (λ copy. record { holders = gathered_holders hs line; owner = gathered_owner 0 hs line; copy = copy }) (gathered_copy hs line)

-- the lines that some hart holds
abbrev pub lines_of : List CachesView → List ℕ
lines_of [] = []
lines_of (h ∷ hs) = fin.keys h.levels.l2.copies ++ lines_of hs

abbrev pub put_some : FinMap nat_cmp Holding → ℕ → Option Holding → FinMap nat_cmp Holding
put_some m line None = m
put_some m line (Some h) = fin.insert m line h

-- the map of a function at these lines
abbrev pub table : (ℕ → Option Holding) → List ℕ → FinMap nat_cmp Holding
table f [] = fin.empty
table f (line ∷ lines) = put_some (table f lines) line (f line)

abbrev pub first_l1_lines : List CachesView → ℕ
first_l1_lines [] = 0
first_l1_lines (h ∷ hs) = h.levels.l1_lines

abbrev pub first_l2_lines : List CachesView → ℕ
first_l2_lines [] = 0
first_l2_lines (h ∷ hs) = h.levels.l2.lines

-- the caches of all harts, as contracts see them
unfoldable pub bus_of : List CachesView → BusView
bus_of hs = record {
  l1_lines = first_l1_lines hs;
  l2_lines = first_l2_lines hs;
  copies = table (gathered hs) (lines_of hs);
  l1 = map (λ h. h.levels.l1) hs;
}

-- what one hart has of a line, by what the harts have of it together
abbrev pub share_of_copy : Option Holding → ℕ → Option Line
share_of_copy None hart = None
share_of_copy (Some h) hart = if has_hart h.holders hart then Some h.copy else None

abbrev pub share_of_owner : Option Holding → ℕ → Bool
share_of_owner None hart = false
share_of_owner (Some h) hart = is_owner h.owner hart

-- each hart has its share of one holding
pub record IsSpread (hs : List CachesView) (line : ℕ) (h : Option Holding) : Type 0 where
  pub proper : IsProper (length hs) h
  pub copies : (hart : ℕ) (d : CachesView) → hart < length hs → hart_copy (slice_index_or hs hart d) line ≡ share_of_copy h hart
  pub owners : (hart : ℕ) (d : CachesView) → hart < length hs → owns (slice_index_or hs hart d) line ≡ share_of_owner h hart

-- one hart's caches have these sizes, one line per index, and an L1 within L2
pub record IsHartOf (l1 l2 : ℕ) (h : CachesView) : Type 0 where
  pub l1_is : h.levels.l1_lines ≡ l1
  pub l2_is : h.levels.l2.lines ≡ l2
  pub one : IsOnePerIndex h.levels.l2
  pub part : IsPartOfL2 h.levels

-- the arrays of all harts are one map, with one copy per line and at most one owner, who is a holder
pub record AreOneMap (hs : List CachesView) : Type 0 where
  pub few : length hs ≤ 4
  pub each : (hart : ℕ) (d : CachesView) → hart < length hs → IsHartOf (first_l1_lines hs) (first_l2_lines hs) (slice_index_or hs hart d)
  pub spread : (line : ℕ) → IsSpread hs line (gathered hs line)
