-- What is left of a driven run: its accesses, the console and the harts.
use Rattle.std.specs.Prelude.{◌≡◌, ℕ, List, [], ◌∷◌, ◌++◌}
use Rattle.dash_base.specs.declared.topology.Topology.{Topology}
use Rattle.elf_load.specs.Image.{ImageView}
use Rattle.dash_event.specs.declared.access.Access.{Access}
use Rattle.dash_event.specs.declared.step_record.StepRecord.{StepRecord}
use Rattle.dash_event.specs.declared.step_record.StepRecord.TheVariants as step
use Rattle.hart_core.specs.HartState.{HartState}
use Rattle.flat_model.specs.State.{FlatState}
use Rattle.flat_model.specs.Driven.{IsDriven}
use Rattle.flat_model.specs.Represents.{MachineView, Represents, harts_of}

-- the access of a record, if it has one
abbrev pub access_of : StepRecord → List Access
access_of (step.Access a) = a ∷ []
access_of r = []

-- the accesses of records, in their order
abbrev pub accesses_of : List StepRecord → List Access
accesses_of [] = []
accesses_of (r ∷ rs) = access_of r ++ accesses_of rs

-- the run that takes the listed harts in order has these accesses, and leaves this console and these harts
pub record IsFlatEnd (image : ImageView) (t : Topology) (order : List ℕ) (accesses : List Access) (console : List ℕ) (harts : List HartState) : Type 0 where
  pub records : List StepRecord
  pub final : FlatState
  pub driven : IsDriven image t order records final
  pub accesses_are : accesses ≡ accesses_of records
  pub console_is : console ≡ final.console
  pub harts_are : harts ≡ harts_of t final

-- the same of a run under way, with the lists of a machine
pub record IsReached (image : ImageView) (t : Topology) (order : List ℕ) (m : MachineView) (accesses : List Access) (console : List ℕ) : Type 0 where
  pub records : List StepRecord
  pub state : FlatState
  pub driven : IsDriven image t order records state
  pub accesses_are : accesses ≡ accesses_of records
  pub console_is : console ≡ state.console
  pub held : Represents t m state
