use Rattle.std.proofs.Common.{arith}
use Rattle.unit_rows.specs.Shown.{config, shown}
use Rattle.cluster_unit.proofs.FirstOnes.{no_slot}
use Rattle.cluster_unit.proofs.first_settling.first_install.Goals as goal

pub returns : goal.returns
returns c =
    let past = c.loop-slot-test.false in
    let low = c.loop-slot.invariant.1 in
    no_slot (config c.args.site.now) c.args.site.now.cluster.0 (shown c.args.parts.now) c.requires.sized c.loop-slot.slot (grind arith) c.loop-slot.invariant.0
