use Rattle.snoop_bus.proofs.Lent.{low_lent, room_lent, found_copy, bus_owns}
use Rattle.snoop_bus.proofs.bus.Bus.bus_own.Goals as goal

pub invariant_of-self : goal.invariant_of-self
invariant_of-self c = (bus_owns c.self.inside.harts _ c.args.line.0 c.self.invariant c.self.view_is _ c.deref_mut.ensures.value _ _ c.args.hart _ _ c.requires.hart_in_range c.requires.room c.deref.ensures.value c.copy.ensures c.unwrap-copy.ensures c.take.ensures).one

pub returns : goal.returns
returns c = (bus_owns c.self.inside.harts _ c.args.line.0 c.self.invariant c.self.view_is _ c.deref_mut.ensures.value _ _ c.args.hart _ _ c.requires.hart_in_range c.requires.room c.deref.ensures.value c.copy.ensures c.unwrap-copy.ensures c.take.ensures).bus

pub unwrap-copy-requires : goal.unwrap-copy-requires
unwrap-copy-requires c = found_copy c.self.inside.harts _ c.args.line.0 c.self.invariant c.self.view_is _ _ c.deref.ensures.value c.copy.ensures c.requires.owned

pub take-requires-clause-hart_in_range : goal.take-requires-clause-hart_in_range
take-requires-clause-hart_in_range c = low_lent c.self.inside.harts _ c.args.line.0 c.self.invariant c.self.view_is _ c.deref_mut.ensures.value c.args.hart c.requires.hart_in_range

pub take-requires-clause-room : goal.take-requires-clause-room
take-requires-clause-room c = room_lent c.self.inside.harts _ c.args.line.0 c.self.invariant c.self.view_is _ c.deref_mut.ensures.value c.args.hart c.requires.room
