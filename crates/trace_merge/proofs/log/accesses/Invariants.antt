use Rattle.std.proofs.Common.{◌≡◌, take}
use Rattle.dash_event.specs.Records.{accesses_of}
use Rattle.trace_merge.proofs.log.accesses.Given as goal

abbrev pub invariant-loop-event : goal.invariant-loop-event
invariant-loop-event l = l.accesses.items ≡ accesses_of (take l.event-index l.log)
