use Rattle.std.proofs.Common.{◌<◌, None, length, arith, ap, ◌∙◌}
use Rattle.std.proofs.lemmas.List.{get_or_default}
use Rattle.dash_event.specs.declared.step_record.StepRecord.TheVariants as step
use Rattle.flat_model.specs.Step.{reservation_after}
use Rattle.flat_model.proofs.MachineLists.{set_more, set_others, set_count}
use Rattle.flat_model.proofs.change.reserve.Goals as goal

pub harts-preserved : goal.harts-preserved
harts-preserved c =
    let i = c.harts.invariant in
    let now = c.harts.reservations.items in
    let was = c.args.reservations.now.items in
    let n = c.harts.number in
    let within : n < length now = omega (arith, i.count) in record {
      count = set_count now was n c.reservation_after.result i.count;
      changed = λ k below. set_more (λ k old. reservation_after k (step.Access c.args.access.now) old) now was n c.reservation_after.result None k within i.changed i.others
          (c.reservation_after.ensures ∙ ap (reservation_after n (step.Access c.args.access.now)) (c.index.ensures ∙ get_or_default now n c.index.result.now None within)) below;
      others = λ k above. set_others now was n c.reservation_after.result None k i.others above;
    }
