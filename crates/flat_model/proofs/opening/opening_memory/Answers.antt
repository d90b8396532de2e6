use Rattle.flat_model.proofs.MachineOpening.{opening_each}
use Rattle.flat_model.proofs.opening.opening_memory.Goals as goal

pub returns-clause-each : goal.returns-clause-each
returns-clause-each c =
    rw c.in_ok-opening_words.ensures.words (opening_each c.args.image.now _)
