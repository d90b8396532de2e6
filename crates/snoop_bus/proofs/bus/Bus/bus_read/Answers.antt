use Rattle.snoop_bus.proofs.Lent.{low_lent, room_lent, held_lent, bus_reads}
use Rattle.snoop_bus.proofs.bus.Bus.bus_read.Goals as goal

pub invariant_of-self : goal.invariant_of-self
invariant_of-self c = (bus_reads c.self.inside.harts _ c.args.line.0 c.self.invariant c.self.view_is _ c.deref_mut.ensures.value _ c.args.hart c.requires.hart_in_range c.requires.room c.requires.held c.join.ensures).one

pub returns : goal.returns
returns c = (bus_reads c.self.inside.harts _ c.args.line.0 c.self.invariant c.self.view_is _ c.deref_mut.ensures.value _ c.args.hart c.requires.hart_in_range c.requires.room c.requires.held c.join.ensures).bus

pub join-requires-clause-hart_in_range : goal.join-requires-clause-hart_in_range
join-requires-clause-hart_in_range c = low_lent c.self.inside.harts _ c.args.line.0 c.self.invariant c.self.view_is _ c.deref_mut.ensures.value c.args.hart c.requires.hart_in_range

pub join-requires-clause-held : goal.join-requires-clause-held
join-requires-clause-held c = held_lent c.self.inside.harts _ c.args.line.0 c.self.invariant c.self.view_is _ c.deref_mut.ensures.value c.requires.held

pub join-requires-clause-room : goal.join-requires-clause-room
join-requires-clause-room c = room_lent c.self.inside.harts _ c.args.line.0 c.self.invariant c.self.view_is _ c.deref_mut.ensures.value c.args.hart c.requires.room
