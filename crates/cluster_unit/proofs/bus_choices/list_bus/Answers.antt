use Rattle.std.proofs.Common.{subst, arith}
use Rattle.unit_rows.specs.Shown.{config, shown}
use Rattle.cluster_unit.specs.Listing.{HasListed, IsBelow}
use Rattle.cluster_unit.proofs.bus_choices.list_bus.Goals as goal

pub returns-clause-listed : goal.returns-clause-listed
returns-clause-listed c =
    let past = c.loop-hart-test.false in
    let low = c.loop-hart.invariant.3 in
    subst (λ n. HasListed (config c.args.site.now) c.args.site.now.cluster.0 (shown c.args.parts.now) (IsBelow 3 n) c.loop-hart.choices.items) (grind arith) c.loop-hart.invariant.0

pub list_bus_of-requires-clause-needed : goal.list_bus_of-requires-clause-needed
list_bus_of-requires-clause-needed c = c.requires.needed.each c.loop-hart.hart _ c.loop-hart-test.true
