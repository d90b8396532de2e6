use Rattle.cache_levels.proofs.LineSets.{enters}
use Rattle.cache_levels.proofs.line_set.LineSet.enter.Goals as goal

pub invariant_of-self : goal.invariant_of-self
invariant_of-self c = (enters c.self.inside.places _ c.self.invariant c.self.view_is c.args.line _ _ c.deref_mut.ensures.value c.put.ensures).direct

pub returns : goal.returns
returns c = (enters c.self.inside.places _ c.self.invariant c.self.view_is c.args.line _ _ c.deref_mut.ensures.value c.put.ensures).set_is
