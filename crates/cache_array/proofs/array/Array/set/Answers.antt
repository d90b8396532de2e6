use Rattle.cache_array.proofs.Changed.{sets}
use Rattle.cache_array.proofs.array.Array.set.Goals as goal

pub invariant_of-self : goal.invariant_of-self
invariant_of-self c = (sets c.self.inside.places _ c.self.invariant c.self.view_is c.args.line c.args.copy c.requires _ _ c.deref_mut.ensures.value c.put.ensures).direct

pub returns : goal.returns
returns c = (sets c.self.inside.places _ c.self.invariant c.self.view_is c.args.line c.args.copy c.requires _ _ c.deref_mut.ensures.value c.put.ensures).array
