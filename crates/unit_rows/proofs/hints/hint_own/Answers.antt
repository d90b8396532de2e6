use Rattle.std.proofs.Common.{◌<◌, true, sym, ap, ◌∙◌, subst}
use Rattle.unit_rows.specs.Shown.{config, shown}
use Rattle.unit_rows.proofs.Retiring.{hart_number}
use Rattle.dash_base.specs.declared.id.LineId.{LineId}
use Rattle.remote_cache.specs.View.{slot_of}
use Rattle.unit_rows.specs.Steps.{Retired}
use Rattle.unit_rows.proofs.HintRows.{asks_to_own, asking_parts, sized_asking, room_for, begun_range, capacity-begun}
use Rattle.unit_rows.specs.Shown.{AreSized}
use Rattle.std.proofs.Common.{[], ◌∷◌, Some}
use Rattle.dash_msg.specs.declared.parcel.Sent.{Sent}
use Rattle.unit_rows.specs.Rows.{DoesChoice}
use Rattle.unit_rows.specs.declared.choice.Choice.TheVariants.{Step}
use Rattle.dash_event.specs.declared.event.Kind.TheVariants as kind
use Rattle.dash_base.specs.declared.need.HintKind.TheVariants.{Exclusive}
use Rattle.ack_counter.specs.Steps.{begun}
use Rattle.unit_rows.proofs.hints.hint_own.Goals as goal

pub issue-requires : goal.issue-requires
issue-requires c = record { in_range = c.requires.opens.opens.slot.below; local = subst (λ n. c.args.hart < n) (sym c.requires.sized.slot_harts) c.requires.hart; empty = c.requires.opens.opens.slot.empty; no_other = ap (λ l. slot_of c.args.parts.now.slots l) (ap (λ (i : LineId). i.0) c.line_of-line.ensures) ∙ c.requires.opens.opens.lone }

pub begin-requires : goal.begin-requires
begin-requires c = room_for (config c.args.site.now) (shown c.args.parts.now) c.args.address c.args.slot c.requires.opens

pub retire-pc-requires : goal.retire-pc-requires
retire-pc-requires c = record {
  sized = subst (λ s. AreSized (config c.args.site.now) c.args.site.now.cluster.0 (record (shown c.args.parts.now) { slots = s; acks = c.begin.new.self })) (sym c.issue.ensures) (subst (λ a. AreSized (config c.args.site.now) c.args.site.now.cluster.0 (asking_parts (shown c.args.parts.now) c.args.slot c.args.hart c.line_of-line.result true a)) (sym c.begin.ensures)
      (sized_asking (config c.args.site.now) c.args.site.now.cluster.0 c.args.hart c.args.address c.args.slot c.line_of-line.result Exclusive (shown c.args.parts.now) true (begun c.args.parts.now.acks c.line_of-line.result.0) c.line_of-line.ensures c.requires.hart c.requires.sized c.requires.opens
      (capacity-begun c.args.parts.now.acks c.line_of-line.result.0 ∙ c.requires.sized.acks) (begun_range (config c.args.site.now) c.args.site.now.cluster.0 c.args.address c.args.slot c.line_of-line.result (shown c.args.parts.now) c.line_of-line.ensures c.requires.sized c.requires.opens)));
  hart = c.requires.hart;
  goes = λ d. (c.requires.need d).goes;
}

pub returns-clause-did : goal.returns-clause-did
returns-clause-did c =
    subst (λ (m : Sent). DoesChoice (config c.args.site.now) c.args.site.now.cluster.0 (Step c.args.hart) (kind.Hint c.hart_id.result c.retire-pc.result (Some c.args.slot)) (shown c.args.parts.now) (shown c.retire-pc.new.parts) (m ∷ [])) (sym c.asking.ensures)
    (asks_to_own (config c.args.site.now) c.args.site.now.cluster.0 c.args.hart c.retire-pc.result c.args.address c.args.slot c.line_of-line.result c.hart_id.result (shown c.args.parts.now) (shown c.retire-pc.new.parts) c.line_of-line.ensures
    (subst (λ a. Retired (config c.args.site.now) (asking_parts (shown c.args.parts.now) c.args.slot c.args.hart c.line_of-line.result true a) (shown c.retire-pc.new.parts) c.args.hart 0 c.retire-pc.result) c.begin.ensures (subst (λ s. Retired (config c.args.site.now) (record (shown c.args.parts.now) { slots = s; acks = c.begin.new.self }) (shown c.retire-pc.new.parts) c.args.hart 0 c.retire-pc.result) c.issue.ensures c.retire-pc.ensures.retired))
    (hart_number c.hart_id.ensures) c.requires.hart c.requires.sized c.requires.need c.keeps_one_slot_a_line.ensures c.requires.opens)
