use Rattle.std.proofs.Common.{subst}
use Rattle.std.specs.Vec.{with_items}
use Rattle.unit_rows.specs.Shown.{shown}
use Rattle.unit_rows.proofs.LawsOffered.{stores_are_of_memory}
use Rattle.cluster_unit.specs.Choosing.{Lists}
use Rattle.cluster_unit.specs.contracts.unit_core.Core.{the_view}
use Rattle.cluster_unit.proofs.Listed.{core_listed, lists_at, listed_back}
use Rattle.cluster_unit.proofs.unit_core.Core.list.Goals as goal

pub list_own-requires-clause-stores : goal.list_own-requires-clause-stores
list_own-requires-clause-stores c = stores_are_of_memory _ _ (shown c.self.inside.parts) c.self.inside.log.items c.self.inside.last c.self.invariant.sent c.self.invariant.received c.self.invariant.local

pub invariant_of-self : goal.invariant_of-self
invariant_of-self c = core_listed (shown c.self.inside.parts) c.self.inside.last (the_view c.self.inside) _ c.self.inside.inlets c.deref_mut.result.now c.list_takes.new.inlets c.self.invariant c.deref_mut.ensures.value c.deref_mut.ensures.len c.list_takes.ensures.looked

pub returns-clause-lists : goal.returns-clause-lists
returns-clause-lists c =
    subst (λ a. Lists a (record (the_view c.self.inside) { inlets = (with_items c.self.inside.inlets c.list_takes.new.inlets).items }) c.list_takes.new.choices.items) c.self.view_is
    (listed_back (the_view c.self.inside) c.self.inside.inlets c.deref_mut.result.now c.list_takes.new.inlets c.list_own.new.choices.items c.list_takes.new.choices.items (lists_at (shown c.self.inside.parts) c.self.inside.last (the_view c.self.inside) _ c.list_own.new.choices.items c.self.invariant c.list_own.ensures.lists) c.deref_mut.ensures.value c.deref_mut.ensures.len c.list_takes.ensures.looked c.list_takes.ensures.takes)
