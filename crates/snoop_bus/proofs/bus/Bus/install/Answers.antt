use Rattle.snoop_bus.proofs.Lent.{low_lent, room_lent, installs}
use Rattle.snoop_bus.proofs.bus.Bus.install.Goals as goal

pub invariant_of-self : goal.invariant_of-self
invariant_of-self c = (installs c.self.inside.harts _ c.args.line.0 c.self.invariant c.self.view_is _ c.deref_mut.ensures.value _ c.args.hart c.args.copy c.args.own c.requires.hart_in_range c.requires.room c.take.ensures).one

pub returns : goal.returns
returns c = (installs c.self.inside.harts _ c.args.line.0 c.self.invariant c.self.view_is _ c.deref_mut.ensures.value _ c.args.hart c.args.copy c.args.own c.requires.hart_in_range c.requires.room c.take.ensures).bus

pub take-requires-clause-hart_in_range : goal.take-requires-clause-hart_in_range
take-requires-clause-hart_in_range c = low_lent c.self.inside.harts _ c.args.line.0 c.self.invariant c.self.view_is _ c.deref_mut.ensures.value c.args.hart c.requires.hart_in_range

pub take-requires-clause-room : goal.take-requires-clause-room
take-requires-clause-room c = room_lent c.self.inside.harts _ c.args.line.0 c.self.invariant c.self.view_is _ c.deref_mut.ensures.value c.args.hart c.requires.room
