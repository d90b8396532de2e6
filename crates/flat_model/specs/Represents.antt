-- How a program keeps the state of the sequential machine: lists in place of maps. The console is kept apart.
use Rattle.std.specs.Prelude.{◌≡◌, ◌<◌, ℕ, ◌+◌, ◌-◌, ◌*◌, List, length, map, slice_index, sum_by, Option, if◌then◌else◌}
use Rattle.std.specs.List.{range_with_len}
use Rattle.dash_base.specs.declared.topology.Topology.{Topology}
use Rattle.elf_load.specs.Image.{ImageView}
use Rattle.dash_event.specs.declared.step_record.StepRecord.{StepRecord}
use Rattle.hart_core.specs.HartState.{HartState, is_running}
use Rattle.dash_base.specs.Places.{hart_count}
use Rattle.dash_base.specs.declared.need.Need.{Need}
use Rattle.flat_model.specs.State.{FlatState}
use Rattle.flat_model.specs.Driven.{IsEagerStep}

-- the harts, the address of the word that each has reserved, the words of memory, and the lock words, each from its first
pub record MachineView : Type 0 where
  pub harts : List HartState
  pub reservations : List (Option ℕ)
  pub memory : List ℕ
  pub locks : List ℕ

-- the harts of a state, in the order of their numbers
abbrev pub harts_of : Topology → FlatState → List HartState
harts_of t s = map (λ h. s.harts h) (range_with_len 0 (hart_count t))

-- as many harts, reservations, words and lock words as a topology has
pub record IsSized (t : Topology) (m : MachineView) : Type 0 where
  pub harts_count : length m.harts ≡ hart_count t
  pub reservations_count : length m.reservations ≡ hart_count t
  pub memory_whole : 4 * length m.memory ≡ t.memory
  pub locks_whole : length m.locks ≡ t.locks

-- these lists are those of a state
pub record Represents (t : Topology) (m : MachineView) (s : FlatState) : Type 0 where
  pub harts_are : m.harts ≡ harts_of t s
  pub reservations_are : m.reservations ≡ map (λ h. s.reservations h) (range_with_len 0 (hart_count t))
  pub memory_whole : 4 * length m.memory ≡ t.memory
  pub memory_is : (i : ℕ) → i < length m.memory → slice_index m.memory i ≡ s.memory (t.base + 4 * i)
  pub locks_whole : length m.locks ≡ t.locks
  pub locks_are : (i : ℕ) → i < length m.locks → slice_index m.locks i ≡ s.locks (t.base + t.memory + 4 * i)

-- the instructions that a hart may still retire, and its end
abbrev pub work_left : Topology → HartState → ℕ
work_left t h = (t.budget - h.retired) + (if is_running h.end then 1 else 0)

-- the work that is left to all harts
abbrev pub all_work_left : Topology → MachineView → ℕ
all_work_left t m = sum_by (work_left t) m.harts

-- hart h did its next instruction on a state: with this record, need and pc, and these lists are those of the state that it led to
pub record IsDone (image : ImageView) (t : Topology) (s : FlatState) (h : ℕ) (need : Need) (pc : ℕ) (r : StepRecord) (after : MachineView) : Type 0 where
  pub new : FlatState
  pub does : IsEagerStep image t s h r new
  pub need_is : need ≡ does.step.need
  pub pc_is : pc ≡ (s.harts h).pc
  pub held : Represents t after new
