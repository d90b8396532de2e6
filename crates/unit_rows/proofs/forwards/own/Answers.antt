use Rattle.std.proofs.Common.{◌≡◌, ◌∙◌, sym, ap, subst, refl, [], ◌∷◌, is_some, List}
use Rattle.dash_base.specs.declared.id.ClusterId.{ClusterId}
use Rattle.dash_msg.specs.declared.msg.Msg.TheVariants as message
use Rattle.dash_msg.specs.declared.parcel.Sent.{Sent}
use Rattle.dash_model.specs.Config.{cluster_id}
use Rattle.snoop_bus.specs.View.{BusView, holders_at}
use Rattle.unit_rows.specs.Shown.{config, shown, AreSized}
use Rattle.unit_rows.specs.Sweeps.{AreSwept}
use Rattle.std.specs.Vec.{with_items}
use Rattle.unit_rows.proofs.Swept.{swept_back}
use Rattle.unit_rows.proofs.BusTurns.{with_line}
use Rattle.unit_rows.proofs.LineTakes.{taken_as}
use Rattle.unit_rows.proofs.ForwardRows.{fwd_own_out, takes_own_refused, takes_own_given, sized_cleared, home_id}
use Rattle.unit_rows.proofs.forwards.own.Goals as goal

abbrev two_sent : Sent → Sent → List Sent
two_sent a b = a ∷ b ∷ []

pub returns-then-not-is_in_range-clause-took : goal.returns-then-not-is_in_range-clause-took
returns-then-not-is_in_range-clause-took c =
    let w = config c.args.site.now in
    let v = shown c.args.parts.now in
    λ from. taken_as w c.args.site.now.cluster.0 from (message.FwdReadEx c.args.line c.args.to) v v v [] c.new.result.items refl c.new.ensures (fwd_own_out w c.args.site.now.cluster.0 v from c.args.line c.args.to (sym c.is_in_range.ensures ∙ c.if-not-is_in_range.true))

pub returns-in_default-clause-took : goal.returns-in_default-clause-took
returns-in_default-clause-took c =
    let w = config c.args.site.now in
    let v = shown c.args.parts.now in
    λ from. taken_as w c.args.site.now.cluster.0 from (message.FwdReadEx c.args.line c.args.to) v v v (record { to = c.args.to; msg = message.Nak c.args.line } ∷ []) c.one.result.items refl c.one.ensures
    (takes_own_refused w c.args.site.now.cluster.0 v c.args.line c.args.to c.requires (sym c.is_in_range.ensures ∙ c.if-not-is_in_range.false) from c.given.result c.given.ensures (ap is_some c.in_default.is))

pub returns-clause-took : goal.returns-clause-took
returns-clause-took c =
    let w = config c.args.site.now in
    let k = c.args.site.now.cluster.0 in
    let v = shown c.args.parts.now in
    let inside = sym c.is_in_range.ensures ∙ c.if-not-is_in_range.false in
    let locals = (with_items c.args.parts.now.locals c.sweep.new.locals).items in
    let back : AreSwept w c.args.line.0 c.holders-before.result 0 v.locals locals = swept_back w c.args.line.0 c.holders-before.result 0 c.args.parts.now.locals c.deref_mut.result.now c.sweep.new.locals c.deref_mut.ensures.value c.deref_mut.ensures.len c.sweep.ensures in
    let are : AreSwept w c.args.line.0 (holders_at v.bus c.args.line.0) 0 v.locals locals = subst (λ n. AreSwept w c.args.line.0 n 0 v.locals locals) c.holders-before.ensures back in
    let home : c.home_among-home.result ≡ home_id w c.args.line = ap cluster_id c.home_among-home.ensures in
    λ from. taken_as w k from (message.FwdReadEx c.args.line c.args.to) v _ (with_line v locals c.clear_all.new.self v.slots v.acks) _ c.two.result.items
    (ap (λ (b : BusView). with_line v locals b v.slots v.acks) c.clear_all.ensures)
    (c.two.ensures ∙ ap (λ (h : ClusterId). two_sent (record { to = c.args.to; msg = message.DataEx c.args.line c.in-Some.copy 1 }) (record { to = h; msg = message.Transfer c.args.line c.args.to })) home)
    (takes_own_given w k v c.args.line c.args.to c.requires inside c.keeps_one_map.ensures from c.in-Some.copy locals are (sym c.given.ensures ∙ c.in-Some.is))

pub returns-clause-sized : goal.returns-clause-sized
returns-clause-sized c =
    let w = config c.args.site.now in
    let k = c.args.site.now.cluster.0 in
    let v = shown c.args.parts.now in
    let inside = sym c.is_in_range.ensures ∙ c.if-not-is_in_range.false in
    let locals = (with_items c.args.parts.now.locals c.sweep.new.locals).items in
    let back : AreSwept w c.args.line.0 c.holders-before.result 0 v.locals locals = swept_back w c.args.line.0 c.holders-before.result 0 c.args.parts.now.locals c.deref_mut.result.now c.sweep.new.locals c.deref_mut.ensures.value c.deref_mut.ensures.len c.sweep.ensures in
    let are : AreSwept w c.args.line.0 (holders_at v.bus c.args.line.0) 0 v.locals locals = subst (λ n. AreSwept w c.args.line.0 n 0 v.locals locals) c.holders-before.ensures back in
    subst (λ (b : BusView). AreSized w k (with_line v locals b v.slots v.acks)) (sym c.clear_all.ensures) (sized_cleared w k v c.args.line c.args.to c.requires inside c.keeps_one_map.ensures locals are)
