use Rattle.flat_model.proofs.MachineRuns.{begun, turned}
use Rattle.flat_model.proofs.driven.flat_run.Goals as goal

pub turns-init : goal.turns-init
turns-init c = record {
  reached = begun _ _ _ _ _ c.in_ok-machine.ensures.held c.new-accesses.ensures.items c.new-console.ensures.items;
  sized = c.in_ok-machine.ensures.sized;
}

pub turns-preserved : goal.turns-preserved
turns-preserved c = record {
  reached = turned c.args.image.now c.args.topology.now c.args.order.now c.turns.hart-index _ _ _ _ c.turns-test.true (c.in_ok-take_turn.ensures.reached _ c.turns.invariant.reached);
  sized = c.in_ok-take_turn.ensures.sized;
}
