use Rattle.unit_rows.specs.Shown.{config, shown}
use Rattle.cluster_unit.proofs.Cores.{opened}
use Rattle.cluster_unit.proofs.unit_core.Core.new.Goals as goal

pub invariant_of-result : goal.invariant_of-result
invariant_of-result c =
    opened (config c.args.site) c.args.site.cluster.0 (shown c.in_ok-parts.parts) c.args.outlets.items c.args.inlets.items c.new.result.items _ c.args.site.in_range c.in_ok-parts.ensures
    c.requires.outlets c.requires.inlets c.requires.unsent c.requires.untaken c.new.ensures.items
