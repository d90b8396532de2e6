use Rattle.std.proofs.Common.{◌<◌, option_to_list, sym, ap, ◌∙◌, subst, ◌-◌, rules}
use Rattle.std.specs.Vec.{with_items}
use Rattle.unit_rows.specs.Shown.{shown}
use Rattle.unit_rows.specs.Left.{weight_left}
use Rattle.unit_rows.proofs.LawsOffered.{stores_are_of_memory}
use Rattle.cluster_unit.specs.View.{CoreView}
use Rattle.cluster_unit.specs.Turns.{Happened, IsIdle, spent}
use Rattle.cluster_unit.specs.contracts.unit_core.Core.{the_view}
use Rattle.cluster_unit.proofs.Cores.{idle_at, acted, happened}
use Rattle.cluster_unit.proofs.unit_core.Core.act.Goals as goal

pub returns-in_default : goal.returns-in_default
returns-in_default c = (
  subst (λ a. IsIdle a c.args.choice) c.self.view_is (idle_at (shown c.self.inside.parts) c.self.inside.last (the_view c.self.inside) _ c.args.choice c.self.invariant (c.in_default.ensures.idle c.requires.own)),
  ap (λ v. record (spent (the_view c.self.inside)) { weight = weight_left (the_view c.self.inside).config (the_view c.self.inside).cluster v }) c.in_default.ensures.unchanged ∙ ap spent c.self.view_is,
)

pub invariant_of-self-2 : goal.invariant_of-self-2
invariant_of-self-2 c =
    acted (shown c.self.inside.parts) (shown c.act.new.parts) c.self.inside.last (the_view c.self.inside) _ _ c.saturating_add-stamp.result c.args.choice c.in-Some.kind c.in-Some.sent c.push_reserved.new.self.items c.self.inside.outlets c.deref_mut.result.now c.send_one.new.outlets
    c.self.invariant (subst (λ (a : CoreView). 0 < a.reserved) (sym c.self.view_is) c.requires.reserved) c.requires.own (let f = c.self.ranges in search rules) c.in-Some.ensures.did c.act.ensures.sized
    c.saturating_add-stamp.ensures c.deref_mut.ensures.value c.deref_mut.ensures.len c.send_one.ensures c.push_reserved.ensures.items c.push_reserved.ensures.capacity

pub returns : goal.returns
returns c = (
  subst (λ a. Happened c.args.choice a (record (the_view c.self.inside) { log = c.push_reserved.new.self.items; outlets = (with_items c.self.inside.outlets c.send_one.new.outlets).items; inlets = c.self.inside.inlets.items; reserved = c.self.inside.reserved - 1; weight = weight_left (the_view c.self.inside).config (the_view c.self.inside).cluster (shown c.act.new.parts) })) c.self.view_is
      (happened (shown c.self.inside.parts) (shown c.act.new.parts) (the_view c.self.inside) c.saturating_add-stamp.result c.args.choice c.in-Some.kind (option_to_list c.in-Some.sent) c.push_reserved.new.self.items c.self.inside.outlets c.deref_mut.result.now c.send_one.new.outlets c.self.inside.inlets.items (weight_left (the_view c.self.inside).config (the_view c.self.inside).cluster (shown c.act.new.parts))
      c.in-Some.ensures.did c.deref_mut.ensures.value c.deref_mut.ensures.len c.send_one.ensures c.push_reserved.ensures.items),
  ap (λ (a : CoreView). a.inlets) c.self.view_is,
)

pub act-requires-clause-stores : goal.act-requires-clause-stores
act-requires-clause-stores c = stores_are_of_memory _ _ (shown c.self.inside.parts) c.self.inside.log.items c.self.inside.last c.self.invariant.sent c.self.invariant.received c.self.invariant.local
