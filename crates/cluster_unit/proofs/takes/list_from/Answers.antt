use Rattle.cluster_unit.proofs.Looking.{looked_more}
use Rattle.cluster_unit.proofs.takes.list_from.Goals as goal

pub returns-clause-looked : goal.returns-clause-looked
returns-clause-looked c = looked_more c.args.inlets.now c.list_one.new.inlets c.list_one-2.new.inlets c.list_one.ensures.looked c.list_one-2.ensures.looked
