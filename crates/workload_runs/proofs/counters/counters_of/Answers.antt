use Rattle.workload_runs.proofs.LastStores.{all_of, one_more}
use Rattle.workload_runs.proofs.counters.counters_of.Goals as goal

pub loop-event-preserved : goal.loop-event-preserved
loop-event-preserved c =
    one_more c.args.log.now c.loop-event.event-index c.event-item.result _ _ c.loop-event-test.true c.event-item.is c.loop-event.invariant c.note_store.ensures.count c.note_store.ensures.each

pub returns : goal.returns
returns c = all_of c.args.log.now c.loop-event.event-index _ c.loop-event-test.false c.loop-event.invariant
