use Rattle.dash_event.specs.Records.{accesses_in}
use Rattle.trace_merge.proofs.Shown.{one_more, all_of}
use Rattle.trace_merge.proofs.log.accesses.Goals as goal

pub loop-event-preserved : goal.loop-event-preserved
loop-event-preserved c =
    one_more (λ e. accesses_in e.kind) c.args.log.now c.loop-event.event-index c.event-item.result _ _ c.loop-event-test.true c.event-item.is c.loop-event.invariant c.in_ok-push_access.ensures

pub returns : goal.returns
returns c = all_of (λ e. accesses_in e.kind) c.args.log.now c.loop-event.event-index _ c.loop-event-test.false c.loop-event.invariant
