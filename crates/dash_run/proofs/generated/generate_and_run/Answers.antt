use Rattle.std.proofs.Common.{subst}
use Rattle.elf_load.specs.Image.{ImageView}
use Rattle.round_run.specs.Finished.{IsFinished}
use Rattle.dash_run.proofs.generated.generate_and_run.Goals as goal

pub summed_up-requires-clause-finished : goal.summed_up-requires-clause-finished
summed_up-requires-clause-finished g c =
    subst (λ (i : ImageView). IsFinished (λ u. record { core = u.core; turns = u.turns; steps = u.steps; ahead = u.ahead }) (record { image = i; top = c.topology-topology.result })
    c.in-Ok.finished.log.items c.in-Ok.finished.units.items c.in-Ok.finished.rounds c.in-Ok.finished.waits.items c.in-Ok.finished.cause)
    c.in_ok-image.ensures (c.in-Ok.ensures _ c.in_ok-machine.ensures.units)
