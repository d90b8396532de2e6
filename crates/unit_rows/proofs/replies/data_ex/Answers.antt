use Rattle.std.proofs.Common.{◌≡◌, ◌∙◌, sym, ap, subst, [], is_some, not, true, false}
use Rattle.dash_msg.specs.declared.msg.Msg.TheVariants.{DataEx}
use Rattle.ack_counter.specs.View.{TableView}
use Rattle.remote_cache.specs.View.{SlotsView}
use Rattle.remote_cache.specs.Steps.{reply_met, after_reply}
use Rattle.ack_counter.specs.Steps.{granted}
use Rattle.unit_rows.specs.Shown.{config, shown, AreSized}
use Rattle.unit_rows.specs.Takes.{Takes}
use Rattle.unit_rows.proofs.MetTurns.{with_slots}
use Rattle.unit_rows.proofs.ReplyRows.{data_ex_past, takes_data_ex, sized_data_ex, grants_acks, leaves_acks}
use Rattle.unit_rows.proofs.replies.data_ex.Goals as goal

pub returns-then-not-has_line-clause-took : goal.returns-then-not-has_line-clause-took
returns-then-not-has_line-clause-took c =
    λ from. data_ex_past (config c.args.site.now) c.args.site.now.cluster.0 (shown c.args.parts.now) from c.args.line c.args.copy c.args.count (sym c.has_line.ensures ∙ c.if-not-has_line.true)

pub returns-then-is_none-clause-took : goal.returns-then-is_none-clause-took
returns-then-is_none-clause-took c =
    let w = config c.args.site.now in
    let k = c.args.site.now.cluster.0 in
    let v = shown c.args.parts.now in
    let met : is_some (reply_met v.slots (DataEx c.args.line c.args.copy c.args.count)) ≡ false = sym (ap is_some c.take_reply-met.ensures.met) ∙ c.is_none.ensures ∙ ap not c.if-is_none.true in
    let inside = sym c.has_line.ensures ∙ c.if-not-has_line.false in
    let one = c.keeps_one_slot_a_line.ensures in
    λ from. subst (λ (x : SlotsView). Takes w k from (DataEx c.args.line c.args.copy c.args.count) v (with_slots v x v.acks) []) (sym c.take_reply-met.ensures.after)
    (takes_data_ex w k v c.args.line c.requires one inside from c.args.copy c.args.count v.acks (leaves_acks w k v c.args.line c.requires one inside c.args.copy c.args.count met))

pub returns-then-is_none-clause-sized : goal.returns-then-is_none-clause-sized
returns-then-is_none-clause-sized c =
    let w = config c.args.site.now in
    let k = c.args.site.now.cluster.0 in
    let v = shown c.args.parts.now in
    let met : is_some (reply_met v.slots (DataEx c.args.line c.args.copy c.args.count)) ≡ false = sym (ap is_some c.take_reply-met.ensures.met) ∙ c.is_none.ensures ∙ ap not c.if-is_none.true in
    let inside = sym c.has_line.ensures ∙ c.if-not-has_line.false in
    let one = c.keeps_one_slot_a_line.ensures in
    subst (λ (x : SlotsView). AreSized w k (with_slots v x v.acks)) (sym c.take_reply-met.ensures.after)
    (sized_data_ex w k v c.args.line c.requires one inside c.args.copy c.args.count v.acks (leaves_acks w k v c.args.line c.requires one inside c.args.copy c.args.count met))

pub returns-clause-took : goal.returns-clause-took
returns-clause-took c =
    let w = config c.args.site.now in
    let k = c.args.site.now.cluster.0 in
    let v = shown c.args.parts.now in
    let met : is_some (reply_met v.slots (DataEx c.args.line c.args.copy c.args.count)) ≡ true = sym (ap is_some c.take_reply-met.ensures.met) ∙ c.is_none.ensures ∙ ap not c.if-is_none.false in
    let inside = sym c.has_line.ensures ∙ c.if-not-has_line.false in
    let one = c.keeps_one_slot_a_line.ensures in
    λ from. subst (λ (x : SlotsView). Takes w k from (DataEx c.args.line c.args.copy c.args.count) v (with_slots v x c.grant.new.self) []) (sym c.take_reply-met.ensures.after)
    (subst (λ (y : TableView). Takes w k from (DataEx c.args.line c.args.copy c.args.count) v (with_slots v (after_reply v.slots (DataEx c.args.line c.args.copy c.args.count)) y) []) (sym c.grant.ensures)
    (takes_data_ex w k v c.args.line c.requires one inside from c.args.copy c.args.count (granted v.acks c.args.line.0 c.args.count) (grants_acks w k v c.args.line c.requires one inside c.args.copy c.args.count met)))

pub returns-clause-sized : goal.returns-clause-sized
returns-clause-sized c =
    let w = config c.args.site.now in
    let k = c.args.site.now.cluster.0 in
    let v = shown c.args.parts.now in
    let met : is_some (reply_met v.slots (DataEx c.args.line c.args.copy c.args.count)) ≡ true = sym (ap is_some c.take_reply-met.ensures.met) ∙ c.is_none.ensures ∙ ap not c.if-is_none.false in
    let inside = sym c.has_line.ensures ∙ c.if-not-has_line.false in
    let one = c.keeps_one_slot_a_line.ensures in
    subst (λ (x : SlotsView). AreSized w k (with_slots v x c.grant.new.self)) (sym c.take_reply-met.ensures.after)
    (subst (λ (y : TableView). AreSized w k (with_slots v (after_reply v.slots (DataEx c.args.line c.args.copy c.args.count)) y)) (sym c.grant.ensures)
    (sized_data_ex w k v c.args.line c.requires one inside c.args.copy c.args.count (granted v.acks c.args.line.0 c.args.count) (grants_acks w k v c.args.line c.requires one inside c.args.copy c.args.count met)))
