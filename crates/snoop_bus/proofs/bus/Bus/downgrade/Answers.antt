use Rattle.snoop_bus.proofs.Lent.{downgrades}
use Rattle.snoop_bus.proofs.bus.Bus.downgrade.Goals as goal

pub invariant_of-self : goal.invariant_of-self
invariant_of-self c = (downgrades c.self.inside.harts _ c.args.line.0 c.self.invariant c.self.view_is _ c.deref_mut.ensures.value _ c.disown.ensures).one

pub returns : goal.returns
returns c = (downgrades c.self.inside.harts _ c.args.line.0 c.self.invariant c.self.view_is _ c.deref_mut.ensures.value _ c.disown.ensures).bus
