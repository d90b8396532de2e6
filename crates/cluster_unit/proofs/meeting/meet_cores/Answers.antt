use Rattle.std.proofs.Common.{refl}
use Rattle.unit_rows.specs.Shown.{shown}
use Rattle.cluster_unit.specs.contracts.unit_core.Core.{the_view}
use Rattle.cluster_unit.proofs.EndsMet.{met_in, to_met}
use Rattle.cluster_unit.proofs.meeting.meet_cores.Goals as goal

pub invariant_of-to : goal.invariant_of-to
invariant_of-to c = to_met (shown c.to.inside.parts) c.to.inside.last (the_view c.to.inside) _ c.to.inside.inlets c.deref_mut-2.result.now c.meet_at.new.inlets c.to.invariant c.deref_mut-2.ensures.value c.deref_mut-2.ensures.len c.meet_at.ensures.learned

pub returns-clause-met : goal.returns-clause-met
returns-clause-met c =
    met_in c.args.class c.meet_at.result c.place-out.result c.place-into.result _ _ c.from.inside.outlets c.deref_mut.result.now c.meet_at.new.outlets c.to.inside.inlets c.deref_mut-2.result.now c.meet_at.new.inlets
    c.meet_at.ensures.met c.place-out.ensures c.place-into.ensures c.deref_mut.ensures.len c.meet_at.ensures.flushed.count c.deref_mut-2.ensures.len c.meet_at.ensures.learned.count refl refl
