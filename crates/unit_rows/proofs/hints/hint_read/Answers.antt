use Rattle.std.proofs.Common.{◌<◌, sym, ap, ◌∙◌, subst}
use Rattle.unit_rows.specs.Shown.{config, shown}
use Rattle.unit_rows.proofs.Retiring.{hart_number}
use Rattle.dash_base.specs.declared.id.LineId.{LineId}
use Rattle.remote_cache.specs.View.{slot_of}
use Rattle.unit_rows.specs.Steps.{Retired}
use Rattle.unit_rows.proofs.HintRows.{asks_to_read, sized_asking}
use Rattle.unit_rows.specs.Shown.{AreSized}
use Rattle.std.proofs.Common.{[], ◌∷◌}
use Rattle.dash_msg.specs.declared.parcel.Sent.{Sent}
use Rattle.unit_rows.specs.Rows.{DoesChoice}
use Rattle.unit_rows.specs.declared.choice.Choice.TheVariants.{Step}
use Rattle.dash_event.specs.declared.event.Kind.TheVariants as kind
use Rattle.std.proofs.Common.{Some, false}
use Rattle.unit_rows.proofs.hints.hint_read.Goals as goal

pub issue-requires : goal.issue-requires
issue-requires c = record { in_range = c.requires.opens.opens.slot.below; local = subst (λ n. c.args.hart < n) (sym c.requires.sized.slot_harts) c.requires.hart; empty = c.requires.opens.opens.slot.empty; no_other = ap (λ l. slot_of c.args.parts.now.slots l) (ap (λ (i : LineId). i.0) c.line_of-line.ensures) ∙ c.requires.opens.opens.lone }

pub retire-pc-requires : goal.retire-pc-requires
retire-pc-requires c = record {
  sized = subst (λ s. AreSized (config c.args.site.now) c.args.site.now.cluster.0 (record (shown c.args.parts.now) { slots = s })) (sym c.issue.ensures) (sized_asking (config c.args.site.now) c.args.site.now.cluster.0 c.args.hart c.args.address c.args.slot c.line_of-line.result c.args.kind (shown c.args.parts.now) false c.args.parts.now.acks c.line_of-line.ensures c.requires.hart c.requires.sized c.requires.opens (ap (λ n. n) c.requires.sized.acks) c.requires.sized.acks_in_range);
  hart = c.requires.hart;
  goes = λ d. (c.requires.need d).goes;
}

pub returns-clause-did : goal.returns-clause-did
returns-clause-did c =
    subst (λ (m : Sent). DoesChoice (config c.args.site.now) c.args.site.now.cluster.0 (Step c.args.hart) (kind.Hint c.hart_id.result c.retire-pc.result (Some c.args.slot)) (shown c.args.parts.now) (shown c.retire-pc.new.parts) (m ∷ [])) (sym c.asking.ensures)
    (asks_to_read (config c.args.site.now) c.args.site.now.cluster.0 c.args.hart c.retire-pc.result c.args.address c.args.slot c.line_of-line.result c.args.kind c.hart_id.result (shown c.args.parts.now) (shown c.retire-pc.new.parts) c.line_of-line.ensures
    (subst (λ s. Retired (config c.args.site.now) (record (shown c.args.parts.now) { slots = s }) (shown c.retire-pc.new.parts) c.args.hart 0 c.retire-pc.result) c.issue.ensures c.retire-pc.ensures.retired)
    (hart_number c.hart_id.ensures) c.requires.hart c.requires.sized c.requires.need c.keeps_one_slot_a_line.ensures c.requires.reads c.requires.opens)
