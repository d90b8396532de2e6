use Rattle.snoop_bus.proofs.Lent.{low_lent, leaves}
use Rattle.snoop_bus.proofs.bus.Bus.drop_one.Goals as goal

pub invariant_of-self : goal.invariant_of-self
invariant_of-self c = (leaves c.self.inside.harts _ c.args.line.0 c.self.invariant c.self.view_is _ c.deref_mut.ensures.value _ c.args.hart c.requires c.leave.ensures).one

pub returns : goal.returns
returns c = (leaves c.self.inside.harts _ c.args.line.0 c.self.invariant c.self.view_is _ c.deref_mut.ensures.value _ c.args.hart c.requires c.leave.ensures).bus

pub leave-requires : goal.leave-requires
leave-requires c = low_lent c.self.inside.harts _ c.args.line.0 c.self.invariant c.self.view_is _ c.deref_mut.ensures.value c.args.hart c.requires
