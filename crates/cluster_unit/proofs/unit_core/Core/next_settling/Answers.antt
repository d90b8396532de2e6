use Rattle.unit_rows.specs.Shown.{shown}
use Rattle.unit_rows.proofs.LawsOffered.{stores_are_of_memory}
use Rattle.cluster_unit.specs.contracts.unit_core.Core.{the_view}
use Rattle.cluster_unit.proofs.Listed.{core_listed}
use Rattle.cluster_unit.proofs.FirstOnes.{first_back}
use Rattle.cluster_unit.proofs.unit_core.Core.next_settling.Goals as goal

pub first_after-requires-clause-stores : goal.first_after-requires-clause-stores
first_after-requires-clause-stores c = stores_are_of_memory _ _ (shown c.self.inside.parts) c.self.inside.log.items c.self.inside.last c.self.invariant.sent c.self.invariant.received c.self.invariant.local

pub invariant_of-self : goal.invariant_of-self
invariant_of-self c = core_listed (shown c.self.inside.parts) c.self.inside.last (the_view c.self.inside) _ c.self.inside.inlets c.deref_mut.result.now c.first_take-shown.new.inlets c.self.invariant c.deref_mut.ensures.value c.deref_mut.ensures.len c.first_take-shown.ensures.looked

pub returns-clause-first : goal.returns-clause-first
returns-clause-first c =
    first_back (shown c.self.inside.parts) c.self.inside.last (the_view c.self.inside) _ c.first_take-shown.new.inlets c.self.invariant c.self.inside.inlets c.deref_mut.result.now c.first_take-shown.result c.first_after.result
    c.deref_mut.ensures.value c.deref_mut.ensures.len c.first_take-shown.ensures.looked c.first_take-shown.ensures.first c.first_after.ensures
