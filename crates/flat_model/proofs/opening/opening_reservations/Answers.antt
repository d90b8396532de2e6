use Rattle.std.proofs.Common.{None, refl}
use Rattle.flat_model.proofs.MachineLists.{list_more}
use Rattle.flat_model.proofs.opening.opening_reservations.Goals as goal

pub numbers-preserved : goal.numbers-preserved
numbers-preserved c = list_more (λ h. None) _ _ _ _ c.numbers.invariant refl c.in_ok-push.ensures.items
