-- What harts need for their next instructions, as a cluster's parts show it, and what one that retires leaves of the parts.
use Rattle.std.specs.Prelude.{◌≡◌, ℕ, true, slice_index_or, slice_set}
use Rattle.dash_base.specs.declared.need.Need.{Need}
use Rattle.hart_core.specs.declared.front.Front.{Front}
use Rattle.hart_core.specs.HartState.{HartState, can_go_on}
use Rattle.hart_core.specs.Meaning.{Needs, Does}
use Rattle.dash_model.specs.Config.{Config}
use Rattle.unit_rows.specs.declared.parts.Local.{Local}
use Rattle.unit_rows.specs.Shown.{PartsView}

-- the hart of this number needs this for its next instruction
abbrev pub HartNeeds : Config → PartsView → ℕ → Need → Type 0
HartNeeds w v k need = (d : Local) → Needs w.image w.top (slice_index_or v.locals k d).core need

-- it has not ended, and has instructions left to retire
abbrev pub HartGoes : Config → PartsView → ℕ → Type 0
HartGoes w v k = (d : Local) → can_go_on w.top (slice_index_or v.locals k d).core ≡ true

-- the parts with another hart of this number
abbrev pub changed_local : PartsView → ℕ → Local → PartsView
changed_local v k x = record v { locals = slice_set v.locals k x }

-- hart k, which is this one, did its instruction, which stood at this pc, with this answer, and another one was found for it; and nothing else changed
pub record Retired (w : Config) (v z : PartsView) (k answer pc : ℕ) : Type 0 where
  pub local : Local
  pub is : (d : Local) → slice_index_or v.locals k d ≡ local
  pub core : HartState
  pub front : Front
  pub does : (need : Need) → Needs w.image w.top local.core need → Does w.image w.top local.core need answer core
  pub pc_is : pc ≡ local.core.pc
  pub new_is : z ≡ changed_local v k (record local { core = core; front = front })
