use Rattle.flat_model.proofs.MachineSteps.{granted_as}
use Rattle.flat_model.proofs.machine.FlatMachine.succeeds.Goals as goal

pub returns-in-Rmw : goal.returns-in-Rmw
returns-in-Rmw c = λ s held.
    granted_as _ _ s _ _ _ _ _ _ _ _ (rw (← c.self.view_is) at held) c.requires.in_range c.in-Rmw.is c.index.ensures c.can_succeed.ensures
