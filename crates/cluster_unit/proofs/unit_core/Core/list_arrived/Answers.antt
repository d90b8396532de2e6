use Rattle.std.proofs.Common.{sym, subst}
use Rattle.std.specs.Vec.{with_items}
use Rattle.unit_rows.specs.Shown.{shown}
use Rattle.cluster_unit.specs.Choosing.{Lists, Rests}
use Rattle.cluster_unit.specs.contracts.unit_core.Core.{the_view}
use Rattle.cluster_unit.proofs.Listed.{ListsAt, core_listed, none_at, listed_back}
use Rattle.cluster_unit.proofs.unit_core.Core.list_arrived.Goals as goal

pub invariant_of-self : goal.invariant_of-self
invariant_of-self c = core_listed (shown c.self.inside.parts) c.self.inside.last (the_view c.self.inside) _ c.self.inside.inlets c.deref_mut.result.now c.list_takes.new.inlets c.self.invariant c.deref_mut.ensures.value c.deref_mut.ensures.len c.list_takes.ensures.looked

pub returns-clause-lists : goal.returns-clause-lists
returns-clause-lists c =
    subst (λ a. Lists a (record (the_view c.self.inside) { inlets = (with_items c.self.inside.inlets c.list_takes.new.inlets).items }) c.list_takes.new.choices.items) c.self.view_is
    (listed_back (the_view c.self.inside) c.self.inside.inlets c.deref_mut.result.now c.list_takes.new.inlets c.clear.new.self.items c.list_takes.new.choices.items (subst (ListsAt (the_view c.self.inside)) (sym c.clear.ensures.items) (none_at (the_view c.self.inside) (subst Rests (sym c.self.view_is) c.requires.rests))) c.deref_mut.ensures.value c.deref_mut.ensures.len c.list_takes.ensures.looked c.list_takes.ensures.takes)
