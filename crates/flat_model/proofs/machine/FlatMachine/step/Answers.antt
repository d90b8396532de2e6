use Rattle.flat_model.proofs.MachineSteps.{done_from}
use Rattle.flat_model.proofs.machine.FlatMachine.step.Goals as goal

pub returns-clause-done : goal.returns-clause-done
returns-clause-done c = λ s held.
    done_from _ _ _ _ _ _ _ _ s c.requires.in_range c.in-Some.ensures.due c.carry_out.ensures.carried_out held
