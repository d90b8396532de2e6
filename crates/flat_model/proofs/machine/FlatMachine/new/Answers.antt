use Rattle.flat_model.proofs.MachineOpening.{opening_held}
use Rattle.flat_model.proofs.MachineLists.{held_sized}
use Rattle.flat_model.proofs.machine.FlatMachine.new.Goals as goal

pub returns-clause-held : goal.returns-clause-held
returns-clause-held c =
    opening_held c.args.image.now c.args.topology.now _ c.in_ok-opening_harts.ensures c.in_ok-opening_reservations.ensures c.in_ok-opening_memory.ensures.whole c.in_ok-opening_memory.ensures.each
    (c.in_ok-vec.ensures.items_if_clones_equal (λ y same. same))

pub returns-clause-sized : goal.returns-clause-sized
returns-clause-sized c =
    held_sized c.args.topology.now _ _
    (opening_held c.args.image.now c.args.topology.now _ c.in_ok-opening_harts.ensures c.in_ok-opening_reservations.ensures c.in_ok-opening_memory.ensures.whole c.in_ok-opening_memory.ensures.each
    (c.in_ok-vec.ensures.items_if_clones_equal (λ y same. same)))
