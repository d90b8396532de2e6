use Rattle.std.proofs.Common.{◌∙◌, sym, subst, []}
use Rattle.dash_msg.specs.declared.msg.Msg.TheVariants.{Data}
use Rattle.remote_cache.specs.View.{SlotsView}
use Rattle.unit_rows.specs.Shown.{config, shown, AreSized}
use Rattle.unit_rows.specs.Takes.{Takes}
use Rattle.unit_rows.proofs.MetTurns.{with_slots}
use Rattle.unit_rows.proofs.ReplyRows.{data_past, takes_data, sized_data}
use Rattle.unit_rows.proofs.replies.data.Goals as goal

pub returns-then-not-has_line-clause-took : goal.returns-then-not-has_line-clause-took
returns-then-not-has_line-clause-took c =
    λ from. data_past (config c.args.site.now) c.args.site.now.cluster.0 (shown c.args.parts.now) from c.args.line c.args.copy (sym c.has_line.ensures ∙ c.if-not-has_line.true)

pub returns-clause-took : goal.returns-clause-took
returns-clause-took c =
    let w = config c.args.site.now in
    let v = shown c.args.parts.now in
    λ from. subst (λ (x : SlotsView). Takes w c.args.site.now.cluster.0 from (Data c.args.line c.args.copy) v (with_slots v x v.acks) []) (sym c.take_reply-met.ensures.after)
    (takes_data w c.args.site.now.cluster.0 v c.args.line c.requires c.keeps_one_slot_a_line.ensures (sym c.has_line.ensures ∙ c.if-not-has_line.false) from c.args.copy)

pub returns-clause-sized : goal.returns-clause-sized
returns-clause-sized c =
    let w = config c.args.site.now in
    let v = shown c.args.parts.now in
    subst (λ (x : SlotsView). AreSized w c.args.site.now.cluster.0 (with_slots v x v.acks)) (sym c.take_reply-met.ensures.after)
    (sized_data w c.args.site.now.cluster.0 v c.args.line c.requires c.keeps_one_slot_a_line.ensures (sym c.has_line.ensures ∙ c.if-not-has_line.false) c.args.copy)
