use Rattle.std.proofs.Common.{refl}
use Rattle.cluster_unit.proofs.EndsMet.{met_in}
use Rattle.cluster_unit.proofs.unit_core.Core.meet_self.Goals as goal

pub returns-clause-met : goal.returns-clause-met
returns-clause-met c =
    met_in c.args.class c.meet_at.result c.place-at.result c.place-at.result _ _ c.self.inside.outlets c.deref_mut.result.now c.meet_at.new.outlets c.self.inside.inlets c.deref_mut-2.result.now c.meet_at.new.inlets
    c.meet_at.ensures.met c.place-at.ensures c.place-at.ensures c.deref_mut.ensures.len c.meet_at.ensures.flushed.count c.deref_mut-2.ensures.len c.meet_at.ensures.learned.count refl refl
