use Rattle.std.proofs.Common.{◌∙◌, sym, subst, []}
use Rattle.dash_msg.specs.declared.msg.Msg.TheVariants.{Ack, TransferAck}
use Rattle.ack_counter.specs.View.{TableView}
use Rattle.unit_rows.specs.Shown.{config, shown, AreSized}
use Rattle.unit_rows.specs.Takes.{Takes}
use Rattle.unit_rows.proofs.MetTurns.{with_slots}
use Rattle.unit_rows.proofs.AckRows.{can_count, ack_past, transfer_ack_past, ack_full, transfer_ack_full, takes_ack, takes_transfer_ack, sized_ack}
use Rattle.unit_rows.proofs.replies.ack.Goals as goal

pub ack-requires : goal.ack-requires
ack-requires c = can_count c.args.parts.now.acks c.args.line.0 (sym c.counts_more.ensures ∙ c.if-not-counts_more.false)

pub returns-then-not-has_line-clause-took : goal.returns-then-not-has_line-clause-took
returns-then-not-has_line-clause-took c = λ from. ack_past (config c.args.site.now) c.args.site.now.cluster.0 (shown c.args.parts.now) from c.args.line (sym c.has_line.ensures ∙ c.if-not-has_line.true)

pub returns-then-not-has_line-clause-transferred : goal.returns-then-not-has_line-clause-transferred
returns-then-not-has_line-clause-transferred c = λ from. transfer_ack_past (config c.args.site.now) c.args.site.now.cluster.0 (shown c.args.parts.now) from c.args.line (sym c.has_line.ensures ∙ c.if-not-has_line.true)

pub returns-then-not-counts_more-clause-took : goal.returns-then-not-counts_more-clause-took
returns-then-not-counts_more-clause-took c = λ from. ack_full (config c.args.site.now) c.args.site.now.cluster.0 (shown c.args.parts.now) from c.args.line (sym c.counts_more.ensures ∙ c.if-not-counts_more.true)

pub returns-then-not-counts_more-clause-transferred : goal.returns-then-not-counts_more-clause-transferred
returns-then-not-counts_more-clause-transferred c = λ from. transfer_ack_full (config c.args.site.now) c.args.site.now.cluster.0 (shown c.args.parts.now) from c.args.line (sym c.counts_more.ensures ∙ c.if-not-counts_more.true)

pub returns-clause-took : goal.returns-clause-took
returns-clause-took c =
    let w = config c.args.site.now in
    let v = shown c.args.parts.now in
    λ from. subst (λ (x : TableView). Takes w c.args.site.now.cluster.0 from (Ack c.args.line) v (with_slots v v.slots x) []) (sym c.ack.ensures)
    (takes_ack w c.args.site.now.cluster.0 v c.args.line c.requires (sym c.has_line.ensures ∙ c.if-not-has_line.false) from (sym c.counts_more.ensures ∙ c.if-not-counts_more.false))

pub returns-clause-transferred : goal.returns-clause-transferred
returns-clause-transferred c =
    let w = config c.args.site.now in
    let v = shown c.args.parts.now in
    λ from. subst (λ (x : TableView). Takes w c.args.site.now.cluster.0 from (TransferAck c.args.line) v (with_slots v v.slots x) []) (sym c.ack.ensures)
    (takes_transfer_ack w c.args.site.now.cluster.0 v c.args.line c.requires (sym c.has_line.ensures ∙ c.if-not-has_line.false) from (sym c.counts_more.ensures ∙ c.if-not-counts_more.false))

pub returns-clause-sized : goal.returns-clause-sized
returns-clause-sized c =
    let w = config c.args.site.now in
    subst (λ (x : TableView). AreSized w c.args.site.now.cluster.0 (with_slots (shown c.args.parts.now) (shown c.args.parts.now).slots x)) (sym c.ack.ensures)
    (sized_ack w c.args.site.now.cluster.0 (shown c.args.parts.now) c.args.line c.requires (sym c.has_line.ensures ∙ c.if-not-has_line.false))
