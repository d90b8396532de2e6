-- What the second meeting knows.
use Rattle.std.proofs.Common.{arith}
use Rattle.mesh_lanes.proofs.Known.{prefix_then}
use Rattle.mesh_lanes.proofs.Spool.{counts}
use Rattle.mesh_lanes.proofs.meeting.meet_and_flush.Goals as goal

pub returns-clause-shown : goal.returns-clause-shown
returns-clause-shown c =
    let before = counts c.meet.new.out c.meet.new.inlet c.meet.ensures.met in
    let after = counts c.meet-2.new.out c.meet-2.new.inlet c.meet-2.ensures.met in
    grind (arith, before, after)

pub returns-clause-known : goal.returns-clause-known
returns-clause-known c = prefix_then c.args.inlet.now.known c.meet.new.inlet.known c.meet-2.new.inlet.known c.meet.ensures.known c.meet-2.ensures.known
