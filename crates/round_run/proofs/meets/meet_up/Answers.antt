use Rattle.std.proofs.Common.{arith}
use Rattle.round_run.specs.Units.{seen}
use Rattle.round_run.proofs.MetUnits.{only_flushed, only_learned, met_up}
use Rattle.round_run.proofs.meets.meet_up.Goals as goal

pub returns : goal.returns
returns g c =
    let order = c.requires.order in
    let below = c.requires.target in
    let split = c.split_at_mut-before.ensures in
    let met = c.meet_units.ensures in
    let all = met_up (λ u. seen u.core u.turns u.steps u.ahead) c.args.topology.now c.args.units.now c.split_at_mut-before.result.0.now c.split_at_mut-before.result.1.now c.args.source c.args.target
    _ _ c.meet_units.new.from c.meet_units.new.to c.args.class c.meet_units.result split.value split.front_len
    (let f = split.front_len in omega arith) (let b = split.back_len in omega arith) c.requires.mesh
    (only_flushed _ _ met.outlets.0 met.outlets.1 met.sender.0 met.sender.1 met.sender.2)
    (only_learned _ _ met.inlets.0 met.inlets.1 met.receiver.0 met.receiver.1 met.receiver.2)
    met.met
    in record { met = all.0; lane = all.1 }
