-- The caches of a cluster as contracts see them: one map from lines to what the harts have of them,
-- and for each hart the lines of its L1.
use Rattle.std.specs.Prelude.{◌≡◌, ◌≢◌, ℕ, ◌+◌, ◌<◌, ◌%◌, ◌==◌, Bool, true, false, ◌&&◌, not, List, [], ◌∷◌, length, replicate, Option, Some, None, option_map, slice_index_or, slice_set, if◌then◌else◌, refl}
use Rattle.std.specs.Ordering.{nat_cmp}
use Rattle.std.specs.FinMap as fin
use Rattle.std.specs.FinMap.{FinMap}
use Rattle.std.specs.FinSet as set
use Rattle.std.specs.FinSet.{FinSet}
use Rattle.std.specs.Coded.{Coded, code_by, coded×, coded_ℕ, coded_list}
use Rattle.dash_base.specs.declared.line.Line.{Line}
use Rattle.snoop_bus.specs.Holding.{Holding, holding_code, has_hart, alone, is_owner, holders_in, owner_in, copy_in, joined_by, owned_by, held_by, rewritten, left_by, disowned, IsProper}

-- the indexes of each L1 and of each L2, what the harts have of each line, and the lines in each L1
pub record BusView : Type 0 where
  pub l1_lines : ℕ
  pub l2_lines : ℕ
  pub copies : FinMap nat_cmp Holding
  pub l1 : List (FinSet nat_cmp)

abbrev pub bus_code : Coded BusView
bus_code =
    code_by (ℕ × (ℕ × (FinMap nat_cmp Holding × List (FinSet nat_cmp)))) (coded× coded_ℕ (coded× coded_ℕ (coded× (fin.code coded_ℕ holding_code) (coded_list (set.code coded_ℕ))))) (λ b. (b.l1_lines, (b.l2_lines, (b.copies, b.l1)))) (λ p. record { l1_lines = p.0; l2_lines = p.1.0; copies = p.1.1.0; l1 = p.1.1.1 }) (λ _. refl)

-- how many harts there are
abbrev pub harts : BusView → ℕ
harts b = length b.l1

-- what the harts have of a line
unfoldable pub holding_at : BusView → ℕ → Option Holding
holding_at b line = fin.get b.copies line

abbrev pub holders_at : BusView → ℕ → ℕ
holders_at b line = holders_in (holding_at b line)

abbrev pub owner_at : BusView → ℕ → Option ℕ
owner_at b line = owner_in (holding_at b line)

abbrev pub copy_of : BusView → ℕ → Option Line
copy_of b line = copy_in (holding_at b line)

-- whether a hart holds a line
abbrev pub is_holder : BusView → ℕ → ℕ → Bool
is_holder b hart line = has_hart (holders_at b line) hart

-- a hart is in state M: the owner and the only holder
abbrev pub owns_alone : BusView → ℕ → ℕ → Bool
owns_alone b hart line = is_owner (owner_at b line) hart && (holders_at b line == alone hart)

-- whether a hart's L1 has a line
unfoldable pub in_hart_l1 : BusView → ℕ → ℕ → Bool
in_hart_l1 b hart line = set.contains (slice_index_or b.l1 hart set.empty) line

-- the hart holds no other line with the index of this one
pub record HasHartRoom (b : BusView) (hart line : ℕ) : Type 0 where
  pub alone : (other : ℕ) → is_holder b hart other ≡ true → other % b.l2_lines ≡ line % b.l2_lines → other ≡ line

-- the hart holds another line, with the index of this one
pub record IsHartOther (b : BusView) (hart line other : ℕ) : Type 0 where
  pub held : is_holder b hart other ≡ true
  pub apart : other ≢ line
  pub index : other % b.l2_lines ≡ line % b.l2_lines

-- each line that is there has holders among the harts and at most one owner, who is a holder; a hart
-- holds at most one line at each index, and its L1 has only lines that it holds
pub record IsOneMap (b : BusView) : Type 0 where
  pub lines : (line : ℕ) → IsProper (harts b) (holding_at b line)
  pub indexes : (hart line : ℕ) → hart < harts b → is_holder b hart line ≡ true → HasHartRoom b hart line
  pub l1 : (hart line : ℕ) → hart < harts b → in_hart_l1 b hart line ≡ true → is_holder b hart line ≡ true

-- no line
unfoldable pub empty_bus : ℕ → ℕ → ℕ → BusView
empty_bus harts l1 l2 = record { l1_lines = l1; l2_lines = l2; copies = fin.empty; l1 = replicate harts set.empty }

-- a map in which a line has this value, or none
abbrev pub set_at : FinMap nat_cmp Holding → ℕ → Option Holding → FinMap nat_cmp Holding
set_at m line None = fin.remove m line
set_at m line (Some h) = fin.insert m line h

-- the L1 sets of harts from this one on, without a line where the hart passes
abbrev pub cleared_from : ℕ → (ℕ → Bool) → ℕ → List (FinSet nat_cmp) → List (FinSet nat_cmp)
cleared_from hart p line [] = []
cleared_from hart p line (s ∷ ss) = (if p hart then set.remove s line else s) ∷ cleared_from (hart + 1) p line ss

-- the harts have this of a line, and the L1 of each hart that passes lacks it
unfoldable pub changed : BusView → (ℕ → Bool) → ℕ → Option Holding → BusView
changed b p line h = record b { copies = set_at b.copies line h; l1 = cleared_from 0 p line b.l1 }

abbrev pub nobody : ℕ → Bool
nobody hart = false

abbrev pub everybody : ℕ → Bool
everybody hart = true

abbrev pub only : ℕ → ℕ → Bool
only one hart = hart == one

abbrev pub all_but : ℕ → ℕ → Bool
all_but one hart = not (hart == one)

-- the hart is a holder too
abbrev pub after_bus_read : BusView → ℕ → ℕ → BusView
after_bus_read b hart line = changed b nobody line (joined_by hart (holding_at b line))

-- the hart is the only holder and the owner
abbrev pub after_bus_own : BusView → ℕ → ℕ → BusView
after_bus_own b hart line = changed b (all_but hart) line (owned_by hart (holding_at b line))

-- the line has this copy
abbrev pub after_commit : BusView → ℕ → Line → BusView
after_commit b line copy = changed b nobody line (rewritten copy (holding_at b line))

-- the hart is the only holder of this copy, and the owner or not
abbrev pub after_install : BusView → ℕ → ℕ → Line → Bool → BusView
after_install b hart line copy own = changed b (all_but hart) line (held_by hart copy own)

-- the hart no longer holds the line
abbrev pub after_drop : BusView → ℕ → ℕ → BusView
after_drop b hart line = changed b (only hart) line (left_by hart (holding_at b line))

-- no hart holds the line
abbrev pub after_clear : BusView → ℕ → BusView
after_clear b line = changed b everybody line None

-- no hart owns the line
abbrev pub after_downgrade : BusView → ℕ → BusView
after_downgrade b line = changed b nobody line (disowned (holding_at b line))

-- the level that a hart that holds a line reads it at
abbrev pub hart_level : BusView → ℕ → ℕ → ℕ
hart_level b hart line = if in_hart_l1 b hart line then 1 else 2

-- what a hart's read of a line answers: the copy and the level, where the hart holds it
unfoldable pub hart_read_of : BusView → ℕ → ℕ → Option (Line × ℕ)
hart_read_of b hart line =
    if is_holder b hart line then option_map (λ copy. (copy, hart_level b hart line)) (copy_of b line) else None

-- a line is in the hart's L1, in place of the line at its index there
unfoldable pub hart_entered : BusView → ℕ → ℕ → BusView
hart_entered b hart line =
    record b { l1 = slice_set b.l1 hart (set.insert (set.retain (slice_index_or b.l1 hart set.empty) (λ other. not (other % b.l1_lines == line % b.l1_lines))) line) }

-- the same after a hart's read of a line: read at level 2, it enters the hart's L1
unfoldable pub after_hart_read : BusView → ℕ → ℕ → BusView
after_hart_read b hart line =
    if is_holder b hart line && not (in_hart_l1 b hart line) then hart_entered b hart line else b
