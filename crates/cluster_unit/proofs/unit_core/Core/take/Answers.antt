use Rattle.std.proofs.Common.{◌<◌, ◌-◌, sym, subst, rules}
use Rattle.std.specs.Vec.{with_items}
use Rattle.unit_rows.specs.Shown.{shown}
use Rattle.unit_rows.specs.Left.{weight_left}
use Rattle.unit_rows.proofs.LawsOffered.{askers_go_on}
use Rattle.cluster_unit.specs.Ends.{Sends}
use Rattle.cluster_unit.specs.View.{CoreView}
use Rattle.cluster_unit.specs.Turns.{Received}
use Rattle.cluster_unit.specs.contracts.unit_core.Core.{the_view}
use Rattle.cluster_unit.proofs.Cores.{none_shown, took, received}
use Rattle.cluster_unit.proofs.unit_core.Core.take.Goals as goal

pub invariant_of-self : goal.invariant_of-self
invariant_of-self c =
    none_shown (shown c.self.inside.parts) c.self.inside.last (the_view c.self.inside) _ c.place.result c.args.from c.args.class c.take_at.new.inlets c.self.inside.inlets c.deref_mut.result.now c.self.invariant
    c.deref_mut.ensures.value c.deref_mut.ensures.len c.place.ensures c.take_at.ensures.others c.in_default.ensures.same

pub take_message-kind-requires-clause-asked : goal.take_message-kind-requires-clause-asked
take_message-kind-requires-clause-asked c = askers_go_on _ _ (shown c.self.inside.parts) c.self.inside.log.items c.self.inside.last c.self.invariant.sent c.self.invariant.received c.self.invariant.local

pub invariant_of-self-2 : goal.invariant_of-self-2
invariant_of-self-2 c =
    took (shown c.self.inside.parts) (shown c.take_message-kind.new.parts) c.self.inside.last (the_view c.self.inside) _ _ c.saturating_add-stamp.result c.max.result c.place.result c.args.from c.args.class c.in-Some.parcel _ c.take_message-kind.result.1.items c.push_reserved.new.self.items c.self.inside.outlets c.deref_mut-2.result.now c.send_all.new.outlets c.take_at.new.inlets c.self.inside.inlets c.deref_mut.result.now
    c.self.invariant (subst (λ (a : CoreView). 0 < a.reserved) (sym c.self.view_is) c.requires.reserved) (subst (λ (a : CoreView). c.args.from.0 < a.config.top.clusters) (sym c.self.view_is) c.requires.from) (let f = c.max.type_inv in search rules) c.take_message-kind.ensures.took c.take_message-kind.ensures.sized c.take_message-kind.ensures.few
    c.max.ensures c.saturating_add-stamp.ensures c.deref_mut-2.ensures.value c.deref_mut-2.ensures.len (subst (λ ss. Sends c.self.inside.site.topology.clusters c.saturating_add-stamp.result ss c.deref_mut-2.result.now c.send_all.new.outlets) c.deref.ensures.0 c.send_all.ensures) c.deref_mut.ensures.value c.deref_mut.ensures.len c.place.ensures c.take_at.ensures.others c.in-Some.ensures.some c.push_reserved.ensures.items c.push_reserved.ensures.capacity

pub returns : goal.returns
returns c =
    subst (λ a. Received c.args.from c.args.class a (record (the_view c.self.inside) { log = c.push_reserved.new.self.items; outlets = (with_items c.self.inside.outlets c.send_all.new.outlets).items; inlets = (with_items c.self.inside.inlets c.take_at.new.inlets).items; reserved = c.self.inside.reserved - 1; weight = weight_left (the_view c.self.inside).config (the_view c.self.inside).cluster (shown c.take_message-kind.new.parts) })) c.self.view_is
    (received (shown c.self.inside.parts) (shown c.take_message-kind.new.parts) (the_view c.self.inside) c.saturating_add-stamp.result c.place.result c.args.from c.args.class c.in-Some.parcel _ c.take_message-kind.result.1.items c.push_reserved.new.self.items c.self.inside.outlets c.deref_mut-2.result.now c.send_all.new.outlets c.take_at.new.inlets c.self.inside.inlets c.deref_mut.result.now (weight_left (the_view c.self.inside).config (the_view c.self.inside).cluster (shown c.take_message-kind.new.parts))
    c.take_message-kind.ensures.took c.deref_mut-2.ensures.value c.deref_mut-2.ensures.len (subst (λ ss. Sends c.self.inside.site.topology.clusters c.saturating_add-stamp.result ss c.deref_mut-2.result.now c.send_all.new.outlets) c.deref.ensures.0 c.send_all.ensures) c.deref_mut.ensures.value c.deref_mut.ensures.len c.place.ensures c.take_at.ensures.others c.in-Some.ensures.some c.in-Some.ensures.next c.push_reserved.ensures.items)
