use Rattle.snoop_bus.proofs.Lent.{clears_all}
use Rattle.snoop_bus.proofs.bus.Bus.clear_all.Goals as goal

pub invariant_of-self : goal.invariant_of-self
invariant_of-self c = (clears_all c.self.inside.harts _ c.args.line.0 c.self.invariant c.self.view_is _ c.deref_mut.ensures.value _ c.clear.ensures).one

pub returns : goal.returns
returns c = (clears_all c.self.inside.harts _ c.args.line.0 c.self.invariant c.self.view_is _ c.deref_mut.ensures.value _ c.clear.ensures).bus
