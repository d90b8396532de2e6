use Rattle.std.proofs.Common.{◌≡◌, ◌∙◌, sym, ap, subst, [], is_some, not, true, false}
use Rattle.dash_msg.specs.declared.msg.Msg.TheVariants.{Nak}
use Rattle.ack_counter.specs.View.{TableView}
use Rattle.ack_counter.specs.Steps.{cancelled}
use Rattle.remote_cache.specs.View.{SlotsView}
use Rattle.remote_cache.specs.Steps.{reply_met, after_reply}
use Rattle.unit_rows.specs.Takes.{Takes}
use Rattle.unit_rows.specs.Replies.{prefetch_owns}
use Rattle.unit_rows.proofs.MetTurns.{with_slots}
use Rattle.unit_rows.specs.Shown.{config, shown, AreSized}
use Rattle.unit_rows.proofs.ReplyRows.{nak_past, takes_nak, sized_nak, nak_leaves, nak_misses, nak_cancels}
use Rattle.unit_rows.proofs.replies.nak.Goals as goal

pub returns-then-not-has_line-clause-took : goal.returns-then-not-has_line-clause-took
returns-then-not-has_line-clause-took c =
    λ from. nak_past (config c.args.site.now) c.args.site.now.cluster.0 (shown c.args.parts.now) from c.args.line (sym c.has_line.ensures ∙ c.if-not-has_line.true)

pub returns-then-not-owned-clause-took : goal.returns-then-not-owned-clause-took
returns-then-not-owned-clause-took c =
    let w = config c.args.site.now in
    let k = c.args.site.now.cluster.0 in
    let v = shown c.args.parts.now in
    let inside = sym c.has_line.ensures ∙ c.if-not-has_line.false in
    let one = c.keeps_one_slot_a_line.ensures in
    let owned : prefetch_owns v.slots c.args.line.0 ≡ false = sym c.prefetch_owns-owned.ensures ∙ c.if-not-owned.true in
    λ from. subst (λ (x : SlotsView). Takes w k from (Nak c.args.line) v (with_slots v x v.acks) []) (sym c.take_reply-met.ensures.after)
    (takes_nak w k v c.args.line c.requires one inside from v.acks (nak_leaves w k v c.args.line c.requires one inside owned))

pub returns-then-not-owned-clause-sized : goal.returns-then-not-owned-clause-sized
returns-then-not-owned-clause-sized c =
    let w = config c.args.site.now in
    let k = c.args.site.now.cluster.0 in
    let v = shown c.args.parts.now in
    let inside = sym c.has_line.ensures ∙ c.if-not-has_line.false in
    let one = c.keeps_one_slot_a_line.ensures in
    let owned : prefetch_owns v.slots c.args.line.0 ≡ false = sym c.prefetch_owns-owned.ensures ∙ c.if-not-owned.true in
    subst (λ (x : SlotsView). AreSized w k (with_slots v x v.acks)) (sym c.take_reply-met.ensures.after)
    (sized_nak w k v c.args.line c.requires one inside v.acks (nak_leaves w k v c.args.line c.requires one inside owned))

pub returns-then-is_none-clause-took : goal.returns-then-is_none-clause-took
returns-then-is_none-clause-took c =
    let w = config c.args.site.now in
    let k = c.args.site.now.cluster.0 in
    let v = shown c.args.parts.now in
    let inside = sym c.has_line.ensures ∙ c.if-not-has_line.false in
    let one = c.keeps_one_slot_a_line.ensures in
    let met : is_some (reply_met v.slots (Nak c.args.line)) ≡ false = sym (ap is_some c.take_reply-met.ensures.met) ∙ c.is_none.ensures ∙ ap not c.if-is_none.true in
    λ from. subst (λ (x : SlotsView). Takes w k from (Nak c.args.line) v (with_slots v x v.acks) []) (sym c.take_reply-met.ensures.after)
    (takes_nak w k v c.args.line c.requires one inside from v.acks (nak_misses w k v c.args.line c.requires one inside met))

pub returns-then-is_none-clause-sized : goal.returns-then-is_none-clause-sized
returns-then-is_none-clause-sized c =
    let w = config c.args.site.now in
    let k = c.args.site.now.cluster.0 in
    let v = shown c.args.parts.now in
    let inside = sym c.has_line.ensures ∙ c.if-not-has_line.false in
    let one = c.keeps_one_slot_a_line.ensures in
    let met : is_some (reply_met v.slots (Nak c.args.line)) ≡ false = sym (ap is_some c.take_reply-met.ensures.met) ∙ c.is_none.ensures ∙ ap not c.if-is_none.true in
    subst (λ (x : SlotsView). AreSized w k (with_slots v x v.acks)) (sym c.take_reply-met.ensures.after)
    (sized_nak w k v c.args.line c.requires one inside v.acks (nak_misses w k v c.args.line c.requires one inside met))

pub returns-clause-took : goal.returns-clause-took
returns-clause-took c =
    let w = config c.args.site.now in
    let k = c.args.site.now.cluster.0 in
    let v = shown c.args.parts.now in
    let inside = sym c.has_line.ensures ∙ c.if-not-has_line.false in
    let one = c.keeps_one_slot_a_line.ensures in
    let owned : prefetch_owns v.slots c.args.line.0 ≡ true = sym c.prefetch_owns-owned.ensures ∙ c.if-not-owned.false in
    let met : is_some (reply_met v.slots (Nak c.args.line)) ≡ true = sym (ap is_some c.take_reply-met.ensures.met) ∙ c.is_none.ensures ∙ ap not c.if-is_none.false in
    λ from. subst (λ (x : SlotsView). Takes w k from (Nak c.args.line) v (with_slots v x c.cancel.new.self) []) (sym c.take_reply-met.ensures.after)
    (subst (λ (y : TableView). Takes w k from (Nak c.args.line) v (with_slots v (after_reply v.slots (Nak c.args.line)) y) []) (sym c.cancel.ensures)
    (takes_nak w k v c.args.line c.requires one inside from (cancelled v.acks c.args.line.0) (nak_cancels w k v c.args.line c.requires one inside owned met)))

pub returns-clause-sized : goal.returns-clause-sized
returns-clause-sized c =
    let w = config c.args.site.now in
    let k = c.args.site.now.cluster.0 in
    let v = shown c.args.parts.now in
    let inside = sym c.has_line.ensures ∙ c.if-not-has_line.false in
    let one = c.keeps_one_slot_a_line.ensures in
    let owned : prefetch_owns v.slots c.args.line.0 ≡ true = sym c.prefetch_owns-owned.ensures ∙ c.if-not-owned.false in
    let met : is_some (reply_met v.slots (Nak c.args.line)) ≡ true = sym (ap is_some c.take_reply-met.ensures.met) ∙ c.is_none.ensures ∙ ap not c.if-is_none.false in
    subst (λ (x : SlotsView). AreSized w k (with_slots v x c.cancel.new.self)) (sym c.take_reply-met.ensures.after)
    (subst (λ (y : TableView). AreSized w k (with_slots v (after_reply v.slots (Nak c.args.line)) y)) (sym c.cancel.ensures)
    (sized_nak w k v c.args.line c.requires one inside (cancelled v.acks c.args.line.0) (nak_cancels w k v c.args.line c.requires one inside owned met)))
