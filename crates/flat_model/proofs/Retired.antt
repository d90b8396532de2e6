-- How many instructions a hart has retired after a step.
use Rattle.std.proofs.Common.{◌≡◌, ◌≤◌, ℕ, ◌+◌, Bool, Some, refl, ◌∙◌, arith}
use Rattle.dash_base.specs.declared.topology.Topology.{Topology}
use Rattle.elf_load.specs.Image.{ImageView}
use Rattle.dash_event.specs.declared.access.Access.{Access}
use Rattle.hart_core.specs.HartState.{HartState}
use Rattle.hart_core.specs.Meaning.{Does, retired_after}
use Rattle.dash_base.specs.declared.need.Need.{Need}
use Rattle.dash_base.specs.declared.need.Need.TheVariants.{Stop}
use Rattle.hart_core.proofs.LawsOffered.{retires}
use Rattle.dash_event.specs.Offered.{offered}

-- no step takes back what was retired
pub retires_no_less : (image : ImageView) (t : Topology) (h k : HartState) (need : Need) (answer : ℕ)
    → Does image t h need answer k → h.retired ≤ k.retired
retires_no_less image t h k need answer d = let now = retires image t h k need answer d in grind arith

-- what accesses a word is no trap
no_trap : (need : Need) (g n old : ℕ) (ok : Bool) (a : Access) (retired : ℕ) → offered g n need old ok ≡ Some a → retired_after need retired ≡ retired + 1
no_trap (Stop end) g n old ok a retired is = cc
no_trap need g n old ok a retired is = refl

-- an access retires one
pub access_retires : (image : ImageView) (t : Topology) (h k : HartState) (need : Need) (answer g n old : ℕ) (ok : Bool) (a : Access)
    → Does image t h need answer k → offered g n need old ok ≡ Some a → k.retired ≡ h.retired + 1
access_retires image t h k need answer g n old ok a d is = retires image t h k need answer d ∙ no_trap need g n old ok a h.retired is
