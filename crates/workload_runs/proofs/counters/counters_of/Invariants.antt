use Rattle.std.proofs.Common.{take}
use Rattle.workload_runs.specs.Counters.{AreCounters}
use Rattle.workload_runs.proofs.counters.counters_of.Given as goal

abbrev pub invariant-loop-event : goal.invariant-loop-event
invariant-loop-event l = AreCounters (take l.event-index l.log) l.counters.items
