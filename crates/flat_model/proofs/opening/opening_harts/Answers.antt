use Rattle.hart_core.specs.Opening.{opening_hart}
use Rattle.flat_model.proofs.MachineLists.{list_more}
use Rattle.flat_model.proofs.opening.opening_harts.Goals as goal

pub numbers-preserved : goal.numbers-preserved
numbers-preserved c =
    list_more (λ h. opening_hart c.args.image.now c.args.topology.now h) _ _ _ _ c.numbers.invariant c.new.ensures c.in_ok-push.ensures.items
