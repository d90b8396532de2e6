use Rattle.std.proofs.Common.{◌≡◌, ◌∙◌, sym, ap, subst, refl, [], ◌∷◌, is_some, List}
use Rattle.dash_base.specs.declared.id.ClusterId.{ClusterId}
use Rattle.dash_msg.specs.declared.msg.Msg.TheVariants as message
use Rattle.dash_msg.specs.declared.parcel.Sent.{Sent}
use Rattle.dash_model.specs.Config.{cluster_id}
use Rattle.snoop_bus.specs.View.{BusView}
use Rattle.unit_rows.specs.Shown.{config, shown, AreSized}
use Rattle.unit_rows.proofs.BusTurns.{with_line}
use Rattle.unit_rows.proofs.LineTakes.{taken_as}
use Rattle.unit_rows.proofs.ForwardRows.{fwd_read_out, takes_read_refused, takes_read_given, sized_downgraded, home_id}
use Rattle.unit_rows.proofs.forwards.read.Goals as goal

abbrev two_sent : Sent → Sent → List Sent
two_sent a b = a ∷ b ∷ []

pub returns-then-not-is_in_range-clause-took : goal.returns-then-not-is_in_range-clause-took
returns-then-not-is_in_range-clause-took c =
    let w = config c.args.site.now in
    let v = shown c.args.parts.now in
    λ from. taken_as w c.args.site.now.cluster.0 from (message.FwdRead c.args.line c.args.to) v v v [] c.new.result.items refl c.new.ensures (fwd_read_out w c.args.site.now.cluster.0 v from c.args.line c.args.to (sym c.is_in_range.ensures ∙ c.if-not-is_in_range.true))

pub returns-in_default-clause-took : goal.returns-in_default-clause-took
returns-in_default-clause-took c =
    let w = config c.args.site.now in
    let v = shown c.args.parts.now in
    λ from. taken_as w c.args.site.now.cluster.0 from (message.FwdRead c.args.line c.args.to) v v v (record { to = c.args.to; msg = message.Nak c.args.line } ∷ []) c.one.result.items refl c.one.ensures
    (takes_read_refused w c.args.site.now.cluster.0 v c.args.line c.args.to c.requires (sym c.is_in_range.ensures ∙ c.if-not-is_in_range.false) from c.given.result c.given.ensures (ap is_some c.in_default.is))

pub returns-clause-took : goal.returns-clause-took
returns-clause-took c =
    let w = config c.args.site.now in
    let k = c.args.site.now.cluster.0 in
    let v = shown c.args.parts.now in
    let inside = sym c.is_in_range.ensures ∙ c.if-not-is_in_range.false in
    let home : c.home_among-home.result ≡ home_id w c.args.line = ap cluster_id c.home_among-home.ensures in
    λ from. taken_as w k from (message.FwdRead c.args.line c.args.to) v _ (with_line v v.locals c.downgrade.new.self v.slots v.acks) _ c.two.result.items
    (ap (λ (b : BusView). with_line v v.locals b v.slots v.acks) c.downgrade.ensures)
    (c.two.ensures ∙ ap (λ (h : ClusterId). two_sent (record { to = c.args.to; msg = message.Data c.args.line c.in-Some.copy }) (record { to = h; msg = message.SharingBack c.args.line c.in-Some.copy c.args.to })) home)
    (takes_read_given w k v c.args.line c.args.to c.requires inside c.keeps_one_map.ensures from c.in-Some.copy (sym c.given.ensures ∙ c.in-Some.is))

pub returns-clause-sized : goal.returns-clause-sized
returns-clause-sized c =
    let w = config c.args.site.now in
    let k = c.args.site.now.cluster.0 in
    let v = shown c.args.parts.now in
    let inside = sym c.is_in_range.ensures ∙ c.if-not-is_in_range.false in
    subst (λ (b : BusView). AreSized w k (with_line v v.locals b v.slots v.acks)) (sym c.downgrade.ensures) (sized_downgraded w k v c.args.line c.args.to c.requires inside c.keeps_one_map.ensures)
