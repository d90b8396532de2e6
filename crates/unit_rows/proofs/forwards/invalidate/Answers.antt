use Rattle.std.proofs.Common.{◌∙◌, sym, ap₂, subst, refl, []}
use Rattle.dash_msg.specs.declared.msg.Msg.TheVariants as message
use Rattle.snoop_bus.specs.View.{BusView, holders_at, after_clear}
use Rattle.remote_cache.specs.View.{SlotsView}
use Rattle.unit_rows.specs.Shown.{config, shown, AreSized}
use Rattle.unit_rows.specs.Sweeps.{AreSwept}
use Rattle.std.specs.Vec.{with_items}
use Rattle.unit_rows.proofs.Swept.{swept_back}
use Rattle.unit_rows.proofs.BusTurns.{with_line}
use Rattle.unit_rows.proofs.LineTakes.{taken_as}
use Rattle.unit_rows.proofs.ForwardRows.{inval_out, takes_inval, sized_inval}
use Rattle.unit_rows.proofs.forwards.invalidate.Goals as goal

pub returns-then-not-is_in_range-clause-took : goal.returns-then-not-is_in_range-clause-took
returns-then-not-is_in_range-clause-took c =
    let w = config c.args.site.now in
    let v = shown c.args.parts.now in
    λ from. taken_as w c.args.site.now.cluster.0 from (message.Inval c.args.line c.args.to) v v v [] c.new.result.items refl c.new.ensures (inval_out w c.args.site.now.cluster.0 v from c.args.line c.args.to (sym c.is_in_range.ensures ∙ c.if-not-is_in_range.true))

pub returns-clause-took : goal.returns-clause-took
returns-clause-took c =
    let w = config c.args.site.now in
    let k = c.args.site.now.cluster.0 in
    let v = shown c.args.parts.now in
    let inside = sym c.is_in_range.ensures ∙ c.if-not-is_in_range.false in
    let locals = (with_items c.args.parts.now.locals c.sweep.new.locals).items in
    let back : AreSwept w c.args.line.0 c.holders-before.result 0 v.locals locals = swept_back w c.args.line.0 c.holders-before.result 0 c.args.parts.now.locals c.deref_mut.result.now c.sweep.new.locals c.deref_mut.ensures.value c.deref_mut.ensures.len c.sweep.ensures in
    let are : AreSwept w c.args.line.0 (holders_at v.bus c.args.line.0) 0 v.locals locals = subst (λ n. AreSwept w c.args.line.0 n 0 v.locals locals) c.holders-before.ensures back in
    λ from. taken_as w k from (message.Inval c.args.line c.args.to) v _ (with_line v locals c.clear_all.new.self c.poison.new.self v.acks) _ c.one.result.items
    (ap₂ (λ (b : BusView) (s : SlotsView). with_line v locals b s v.acks) c.clear_all.ensures c.poison.ensures)
    c.one.ensures
    (takes_inval w k v c.args.line c.args.to c.requires inside c.keeps_one_map.ensures from locals c.keeps_one_slot_a_line.ensures are)

pub returns-clause-sized : goal.returns-clause-sized
returns-clause-sized c =
    let w = config c.args.site.now in
    let k = c.args.site.now.cluster.0 in
    let v = shown c.args.parts.now in
    let inside = sym c.is_in_range.ensures ∙ c.if-not-is_in_range.false in
    let locals = (with_items c.args.parts.now.locals c.sweep.new.locals).items in
    let back : AreSwept w c.args.line.0 c.holders-before.result 0 v.locals locals = swept_back w c.args.line.0 c.holders-before.result 0 c.args.parts.now.locals c.deref_mut.result.now c.sweep.new.locals c.deref_mut.ensures.value c.deref_mut.ensures.len c.sweep.ensures in
    let are : AreSwept w c.args.line.0 (holders_at v.bus c.args.line.0) 0 v.locals locals = subst (λ n. AreSwept w c.args.line.0 n 0 v.locals locals) c.holders-before.ensures back in
    subst (λ (b : BusView). AreSized w k (with_line v locals b c.poison.new.self v.acks)) (sym c.clear_all.ensures) (subst (λ (s : SlotsView). AreSized w k (with_line v locals (after_clear v.bus c.args.line.0) s v.acks)) (sym c.poison.ensures) (sized_inval w k v c.args.line c.args.to c.requires inside c.keeps_one_map.ensures locals c.keeps_one_slot_a_line.ensures are))
