use Rattle.cluster_unit.proofs.Looking.{looked_more}
use Rattle.cluster_unit.proofs.first_take.first_class.Goals as goal

pub returns-then-look-2-clause-looked : goal.returns-then-look-2-clause-looked
returns-then-look-2-clause-looked c = looked_more c.args.inlets.now c.look.new.inlets c.look-2.new.inlets c.look.ensures.looked c.look-2.ensures.looked

pub returns-clause-looked : goal.returns-clause-looked
returns-clause-looked c = looked_more c.args.inlets.now c.look.new.inlets c.look-2.new.inlets c.look.ensures.looked c.look-2.ensures.looked
